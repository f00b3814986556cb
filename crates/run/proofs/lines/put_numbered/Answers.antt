use Rattle.run.proofs.TextLaws.{puts_then}
use native.Mathlib.Omega.{arith}
use Rattle.run.proofs.lines.put_numbered.Goals as goal

pub returns : goal.returns
returns c = record { puts = search puts_then; upper_bound = omega arith }
