use Rattle.calls.proofs.FilingCases.{filed_even, filed_odd}
use Rattle.calls.proofs.filing.file_log.Goals as goal

pub returns-then-is_even : goal.returns-then-is_even
returns-then-is_even c = search filed_even

pub returns : goal.returns
returns c = search filed_odd
