use Rattle.run.proofs.TextLaws.{puts_after}
use native.Mathlib.Omega.{arith}
use Rattle.run.proofs.lines.put_refused.Goals as goal

pub returns : goal.returns
returns c = record { puts = rw (← c.from-number.ensures, ← c.from.ensures) (search puts_after); upper_bound = omega arith }
