use Rattle.message.proofs.StoreLaws.{match_is, match_not}
use Rattle.message.proofs.store.matches.Goals as goal

pub returns-then-holds_log-is_within : goal.returns-then-holds_log-is_within
returns-then-holds_log-is_within c = match_is c.args.bytes.now
    c.args.names.now
    c.args.counts.now
    c.args.a
    c.args.x _ _ c.holds_log.ensures
    c.is_within.ensures _ c.count_in.ensures.0 _ c.if-holds_log-is_within.true
    c.blocks_match.ensures

pub returns : goal.returns
returns c = match_not c.args.bytes.now
    c.args.names.now
    c.args.counts.now
    c.args.a
    c.args.x _ _ c.holds_log.ensures
    c.is_within.ensures _ c.count_in.ensures.0 c.if-holds_log-is_within.false
