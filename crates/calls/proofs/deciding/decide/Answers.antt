use Rattle.calls.proofs.DecidingLaws.{decide_none}
use Rattle.calls.proofs.deciding.decide.Goals as goal

pub returns-in_default : goal.returns-in_default
returns-in_default c = search decide_none
