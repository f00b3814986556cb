use Rattle.run.proofs.PageLaws.{slot_put}
use native.Mathlib.Omega.{arith}
use Rattle.run.proofs.slots.put_slot.Goals as goal

pub returns : goal.returns
returns c = record { puts = search slot_put; value = omega arith }
