use Rattle.agreement.proofs.FileCases.{filed_by}
use Rattle.agreement.proofs.filing.file.Goals as goal

-- src/filing.rt:116:1
pub returns : goal.returns
returns c = search filed_by
