use Rattle.run.proofs.EventLaws.{offer_is}
use Rattle.run.proofs.calling.offer_in.Goals as goal

pub returns : goal.returns
returns c = search offer_is
