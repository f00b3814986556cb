use Rattle.message.proofs.StoreLaws.{file_done, file-outside}
use Rattle.message.proofs.store.file.Goals as goal

pub returns-then-holds_log-is_within : goal.returns-then-holds_log-is_within
returns-then-holds_log-is_within c = file_done _ _ _ _ _
    c.count_in-k.ensures.0 _ _
    c.holds_log.ensures
    c.is_within.ensures _ _
    c.if-holds_log-is_within.true
    c.file_numbers.ensures c.file_numbers-then-holds_log-is_within.ensures

pub returns : goal.returns
returns c = file-outside _ _ _ c.args.bytes.now _
    c.count_in-k.ensures.0 _ _ c.holds_log.ensures c.is_within.ensures
    c.if-holds_log-is_within.false
