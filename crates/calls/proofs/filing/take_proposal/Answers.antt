use Rattle.calls.proofs.ReceiveCases.{proposal_taken, proposal_shut}
use Rattle.calls.proofs.filing.take_proposal.Goals as goal

pub returns-then-is_open : goal.returns-then-is_open
returns-then-is_open c = search proposal_taken

pub returns : goal.returns
returns c = search proposal_shut
