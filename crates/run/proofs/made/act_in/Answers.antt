use Rattle.run.proofs.MadeLaws.{act_makes}
use Rattle.run.proofs.made.act_in.Goals as goal

pub returns : goal.returns
returns c = search act_makes
