use Rattle.run.proofs.RollForm.{mark_next, marks_end}
use borrow.Author.Rules.{rules}
use Rattle.run.proofs.form.is_misfit.Goals as goal

pub loop-i-preserved : goal.loop-i-preserved
loop-i-preserved c = record { near = search rules; rest = search mark_next }

pub returns : goal.returns
returns c = search marks_end
