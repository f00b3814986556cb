use Rattle.calls.proofs.SeeingLaws.{ballot_lock, ballot_proposal}
use Rattle.calls.proofs.seeing.ballot.Goals as goal

pub returns-in_default-best : goal.returns-in_default-best
returns-in_default-best c = search ballot_lock

pub returns : goal.returns
returns c = search ballot_proposal
