use Rattle.calls.proofs.CallCases.{open_by_7, open_by_8, opened}
use Rattle.calls.proofs.open.Goals as goal

pub returns-then-is_out_of_range : goal.returns-then-is_out_of_range
returns-then-is_out_of_range c = search open_by_7

pub returns-then-is_short : goal.returns-then-is_short
returns-then-is_short c = search open_by_8

pub returns : goal.returns
returns c = search opened
