use Rattle.calls.proofs.RefusalCases.{judged_whole}
use Rattle.calls.proofs.limits.judge.Goals as goal

pub returns : goal.returns
returns c = search judged_whole
