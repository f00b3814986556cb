use Rattle.run.specs.RollSteps.{end_text, taken_text}
use borrow.Author.Rules.{rules}
use native.Mathlib.Omega.{arith}
use Rattle.run.proofs.lines.put_taken.Goals as goal

pub returns-in-Ok-First : goal.returns-in-Ok-First
unfolding taken_text end_text
returns-in-Ok-First c = record { puts = search rules; upper_bound = omega arith }

pub returns-in-Ok-Second : goal.returns-in-Ok-Second
unfolding taken_text end_text
returns-in-Ok-Second c = record { puts = search rules; upper_bound = omega arith }

pub returns-in-Ok-Known : goal.returns-in-Ok-Known
unfolding taken_text end_text
returns-in-Ok-Known c = record { puts = search rules; upper_bound = omega arith }

pub returns-in-Err : goal.returns-in-Err
unfolding taken_text end_text
returns-in-Err c = record { puts = search rules; upper_bound = omega arith }
