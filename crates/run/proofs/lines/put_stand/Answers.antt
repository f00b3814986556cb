use Rattle.run.proofs.TextLaws.{puts_after}
use native.Mathlib.Omega.{arith}
use Rattle.run.specs.RollSteps.{stand_text}
use Rattle.run.proofs.lines.put_stand.Goals as goal

pub returns : goal.returns
unfolding stand_text
returns c = record { puts = search puts_after; upper_bound = omega arith }
