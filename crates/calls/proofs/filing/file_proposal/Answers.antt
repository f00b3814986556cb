use Rattle.calls.proofs.FilingCases.{filed_proposal}
use Rattle.calls.proofs.filing.file_proposal.Goals as goal

pub returns : goal.returns
returns c = search filed_proposal
