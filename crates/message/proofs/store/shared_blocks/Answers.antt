use Rattle.message.proofs.StoreLaws.{unlike_is, walk_on, walk_off, walk_end}
use mathlib.Core.Bool.{not}
use mathlib.Core.Path.{ap, ◌∙◌}
use Rattle.message.proofs.store.shared_blocks.Goals as goal

pub loop-i-preserved : goal.loop-i-preserved
loop-i-preserved c = walk_on _ _ _ _ _ _ _ c.loop-i.invariant c.loop-i-test.true
    (unlike_is _ _ _ _ _ _ _ c.ne.ensures c.block_at.ensures c.block_at-in-loop-i.ensures ∙ ap not c.if-ne.false)

pub returns-then-ne : goal.returns-then-ne
returns-then-ne c = walk_off _ _ _ _ _ _ _ c.loop-i.invariant c.loop-i-test.true
    (unlike_is _ _ _ _ _ _ _ c.ne.ensures c.block_at.ensures c.block_at-in-loop-i.ensures ∙ ap not c.if-ne.true)

pub returns : goal.returns
returns c = walk_end _ _ _ _ _ _ _ c.loop-i.invariant c.loop-i-test.false c.loop-i.auto.i-end
