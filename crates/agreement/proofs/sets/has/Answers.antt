use Rattle.agreement.proofs.MaskLaws.{has_is}
use Rattle.agreement.proofs.sets.has.Goals as goal

pub returns : goal.returns
returns c = has_is _ _
