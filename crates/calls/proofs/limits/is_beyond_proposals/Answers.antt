use Rattle.calls.proofs.LimitCases.{beyond_shown}
use Rattle.calls.proofs.limits.is_beyond_proposals.Goals as goal

pub returns : goal.returns
returns c = search beyond_shown
