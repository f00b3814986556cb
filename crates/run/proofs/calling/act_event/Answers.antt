use Rattle.run.proofs.EventLaws.{acted_gives}
use Rattle.run.proofs.calling.act_event.Goals as goal

pub returns : goal.returns
returns c = search acted_gives
