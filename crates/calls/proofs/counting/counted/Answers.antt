use Rattle.calls.proofs.SupportCases.{counted_none}
use Rattle.calls.proofs.counting.counted.Goals as goal

pub returns : goal.returns
returns c = search counted_none
