use borrow.Author.Rules.{rules}
use native.Mathlib.Omega.{arith}
use Rattle.run.specs.RollSteps.{end_text, start_text}
use Rattle.run.proofs.lines.put_start.Goals as goal

pub returns-in-Ok : goal.returns-in-Ok
unfolding start_text
returns-in-Ok c = record { puts = search rules; upper_bound = omega arith }

pub returns-in-Err : goal.returns-in-Err
unfolding start_text end_text
returns-in-Err c = record { puts = search rules; upper_bound = omega arith }
