use Rattle.run.specs.Texts.{digits}
use Rattle.run.specs.RollSteps.{end_text, acted_text}
use borrow.Author.Rules.{rules}
use native.Mathlib.Omega.{arith}
use Rattle.run.proofs.lines.put_acted.Goals as goal

pub returns-in-Ok-Nothing : goal.returns-in-Ok-Nothing
unfolding acted_text digits
returns-in-Ok-Nothing c = record { puts = search rules; upper_bound = omega arith }

pub returns-in-Ok-Log : goal.returns-in-Ok-Log
unfolding acted_text
returns-in-Ok-Log c = record { puts = search rules; upper_bound = omega arith }

pub returns-in-Ok-Proposal : goal.returns-in-Ok-Proposal
unfolding acted_text
returns-in-Ok-Proposal c = record { puts = search rules; upper_bound = omega arith }

pub returns-in-Err : goal.returns-in-Err
unfolding acted_text end_text
returns-in-Err c = record { puts = search rules; upper_bound = omega arith }
