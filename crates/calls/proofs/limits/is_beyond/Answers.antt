use Rattle.calls.proofs.LimitCases.{beyond_limits}
use Rattle.calls.proofs.limits.is_beyond.Goals as goal

pub returns : goal.returns
returns c = search beyond_limits
