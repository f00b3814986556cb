use Rattle.calls.proofs.LimitCases.{bad_sets_lem}
use Rattle.calls.proofs.limits.are_bad_sets.Goals as goal

pub returns : goal.returns
returns c = search bad_sets_lem
