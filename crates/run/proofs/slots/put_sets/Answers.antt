use Rattle.run.proofs.PageLaws.{sets_put}
use native.Mathlib.Omega.{arith}
use Rattle.run.proofs.slots.put_sets.Goals as goal

pub returns : goal.returns
returns c = record { puts = search sets_put; value = omega arith }
