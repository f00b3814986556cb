use Rattle.run.proofs.PageLaws.{read_nothing, read_longest}
use native.Mathlib.Omega.{arith}
use Rattle.run.proofs.slots.put_read.Goals as goal

pub returns-in-None : goal.returns-in-None
returns-in-None c = record { puts = search read_nothing; value = omega arith }

pub returns-in-Some : goal.returns-in-Some
returns-in-Some c = record { puts = search read_longest; value = omega arith }
