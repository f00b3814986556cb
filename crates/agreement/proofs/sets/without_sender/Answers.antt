use Rattle.agreement.proofs.MaskLaws.{removed_by}
use Rattle.agreement.proofs.sets.without_sender.Goals as goal

pub returns : goal.returns
returns c = search removed_by
