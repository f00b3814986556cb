use Rattle.calls.proofs.RecordCases.{forgets_proposals, keeps_proposals}
use Rattle.calls.proofs.beginning.kept_proposals.Goals as goal

pub returns-then-is_shut : goal.returns-then-is_shut
returns-then-is_shut c = search forgets_proposals

pub returns : goal.returns
returns c = search keeps_proposals
