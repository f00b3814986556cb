use Rattle.calls.proofs.SupportCases.{tally_read}
use Rattle.calls.proofs.counting.supporters.Goals as goal

pub returns : goal.returns
returns c = (tally_read _ _ _ _ _ _ _ _ _ c.unwrap_or-longest.ensures c.requires c.supporters.ensures.0, c.supporters.ensures.1)
