use Rattle.calls.proofs.SeeingLaws.{of_its_view, of_another}
use Rattle.calls.proofs.seeing.graded.Goals as goal

pub returns-then-g-v : goal.returns-then-g-v
returns-then-g-v c = search of_its_view

pub returns : goal.returns
returns c = search of_another
