use Rattle.calls.proofs.SeeingLaws.{best_of_view, best_of_none}
use Rattle.calls.proofs.seeing.best.Goals as goal

pub returns-then-g-v : goal.returns-then-g-v
returns-then-g-v c = search best_of_view

pub returns : goal.returns
returns c = search best_of_none
