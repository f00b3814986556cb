use borrow.Author.Rules.{rules}
use Rattle.agreement.proofs.MajorityLaws.{lead_none, lead_new, lead_same, lead_other, voted}
use Rattle.agreement.proofs.logs.Logs.majority_sender.Goals as goal

pub loop-j-init : goal.loop-j-init
loop-j-init c = lead_none _ _ _ _ _ _ _ (cc) (search rules)

pub loop-j-preserved-then-weight-eq0 : goal.loop-j-preserved-then-weight-eq0
loop-j-preserved-then-weight-eq0 c = lead_new _ _ _ _ _ _ _ _ _ c.loop-j.invariant _ _ c.in-Some.ensures.steps.0 c.if-weight-eq0.true

pub loop-j-preserved-then-same_next : goal.loop-j-preserved-then-same_next
loop-j-preserved-then-same_next c =
    lead_same _ _ _ _ _ _ _ _ _ c.loop-j.invariant _ _ c.in-Some.ensures.steps.0 _ c.same_next.ensures c.if-same_next.true

pub loop-j-preserved : goal.loop-j-preserved
loop-j-preserved c =
    lead_other _ _ _ _ _ _ _ _ _ c.loop-j.invariant _ _ c.in-Some.ensures.steps.0 _ c.same_next.ensures c.if-same_next.false c.if-weight-eq0.false

pub returns : goal.returns
returns c = voted _ _ _ _ _ _ _ _ _ c.loop-j.invariant c.in-None.ensures.steps.0
