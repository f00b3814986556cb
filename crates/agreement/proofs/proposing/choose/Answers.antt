use Rattle.agreement.proofs.ChoiceLaws.{best_start, best_next, best_end, best_asks, choice_lacks}
use Rattle.agreement.proofs.proposing.choose.Goals as goal

pub returns-then-lacks_room : goal.returns-then-lacks_room
returns-then-lacks_room c = search choice_lacks

pub loop-i-init : goal.loop-i-init
loop-i-init c = best_start _ _ _ _ _ _ _ _ _ (cc)

pub best_to-best-requires : goal.best_to-best-requires
best_to-best-requires c = best_asks _ _ _ _ _ _ _ _ _ _ c.loop-i.invariant _ _ c.in-Some.ensures.steps.0

pub loop-i-preserved : goal.loop-i-preserved
loop-i-preserved c = best_next _ _ _ _ _ _ _ _ _ _ c.loop-i.invariant _ _ c.in-Some.ensures.steps.0 _ c.best_to-best.ensures

pub returns : goal.returns
returns c = best_end _ _ _ _ _ _ _ _ _ _ c.loop-i.invariant _ _ c.in_first-shown.ensures c.lacks_room.ensures c.if-lacks_room.false c.in-None.ensures.steps.0
