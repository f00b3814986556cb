use Rattle.agreement.proofs.TallyLaws.{backs_is}
use Rattle.agreement.proofs.logs.Logs.is_behind.Goals as goal

pub returns : goal.returns
returns c = search backs_is
