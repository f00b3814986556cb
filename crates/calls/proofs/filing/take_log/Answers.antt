use Rattle.calls.proofs.ReceiveCases.{log_taken, log_shut}
use Rattle.calls.proofs.filing.take_log.Goals as goal

pub returns-then-is_open : goal.returns-then-is_open
returns-then-is_open c = search log_taken

pub returns : goal.returns
returns c = search log_shut
