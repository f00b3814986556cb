use Rattle.agreement.proofs.MaskLaws.{added_by}
use Rattle.agreement.proofs.sets.with_sender.Goals as goal

pub returns : goal.returns
returns c = search added_by
