use Rattle.calls.proofs.WrittenLaws.{log_acts}
use Rattle.calls.proofs.making.make_log.Goals as goal

pub returns : goal.returns
returns c = search log_acts
