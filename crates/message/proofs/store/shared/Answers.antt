use Rattle.message.proofs.StoreLaws.{shared_outside, shared_is}
use Rattle.message.proofs.store.shared.Goals as goal

pub returns-then-is_within : goal.returns-then-is_within
returns-then-is_within c = shared_is _ _ c.args.a c.args.x
    c.args.b c.args.y _ _
    c.is_within.ensures c.is_within-2.ensures _ _ c.if-is_within.true c.min.ensures c.shared_blocks.ensures

pub returns : goal.returns
returns c = shared_outside _ _ c.args.a c.args.x
    c.args.b c.args.y _ _
    c.is_within.ensures c.is_within-2.ensures c.if-is_within.false
