use Rattle.calls.proofs.RecordCases.{forgets, keeps}
use Rattle.calls.proofs.beginning.kept_agreement.Goals as goal

pub returns-then-is_shut : goal.returns-then-is_shut
returns-then-is_shut c = search forgets

pub returns : goal.returns
returns c = search keeps
