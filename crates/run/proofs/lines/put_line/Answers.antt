use Rattle.run.specs.RollSteps.{answer_text}
use borrow.Author.Rules.{rules}
use native.Mathlib.Omega.{arith}
use Rattle.run.proofs.lines.put_line.Goals as goal

pub returns-in-Begun : goal.returns-in-Begun
unfolding answer_text
returns-in-Begun c = record { puts = search rules; upper_bound = omega arith }

pub returns-in-Taken : goal.returns-in-Taken
unfolding answer_text
returns-in-Taken c = record { puts = search rules; upper_bound = omega arith }

pub returns-in-Acted : goal.returns-in-Acted
unfolding answer_text
returns-in-Acted c = record { puts = search rules; upper_bound = omega arith }
