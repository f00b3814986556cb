use Rattle.agreement.proofs.LimitLaws.{some_in}
use Rattle.agreement.proofs.sets.meet.Goals as goal

pub returns : goal.returns
returns c = search some_in
