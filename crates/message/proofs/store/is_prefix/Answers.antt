use Rattle.message.proofs.StoreLaws.{prefix_is, prefix_not}
use Rattle.message.proofs.store.is_prefix.Goals as goal

pub returns-then-is_within-x : goal.returns-then-is_within-x
returns-then-is_within-x c = prefix_is _ _ c.args.a
    c.args.x c.args.b
    c.args.y _ _ c.is_within.ensures
    c.is_within-2.ensures _ c.if-is_within-x.true c.shared_blocks.ensures

pub returns : goal.returns
returns c = prefix_not _ _ c.args.a c.args.x
    c.args.b c.args.y _ _
    c.is_within.ensures c.is_within-2.ensures c.if-is_within-x.false
