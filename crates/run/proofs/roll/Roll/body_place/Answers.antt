use Rattle.run.proofs.HeldLaws.{body_next, body_end}
use native.Mathlib.Omega.{arith}
use borrow.Author.Rules.{rules}
use Rattle.run.proofs.roll.Roll.body_place.Goals as goal

pub loop-i-preserved : goal.loop-i-preserved
loop-i-preserved c = record { few = search rules; near = omega arith; rest = search body_next }

pub returns : goal.returns
returns c = (search body_end, omega arith)
