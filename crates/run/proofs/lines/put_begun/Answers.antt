use Rattle.run.proofs.TextLaws.{puts_three}
use native.Mathlib.Omega.{arith}
use Rattle.run.proofs.lines.put_begun.Goals as goal

pub returns : goal.returns
returns c = record { puts = search puts_three; upper_bound = omega arith }
