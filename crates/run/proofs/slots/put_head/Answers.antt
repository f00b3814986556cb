use Rattle.run.proofs.PageLaws.{head_put}
use native.Mathlib.Omega.{arith}
use Rattle.run.proofs.slots.put_head.Goals as goal

pub returns : goal.returns
returns c = record { puts = search head_put; value = omega arith }
