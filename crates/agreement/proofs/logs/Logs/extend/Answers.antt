use Rattle.agreement.proofs.ExtendLaws.{follow_all, follow_same, follow_far, far_few, follow_majority, top_majority, top_full}
use borrow.Author.Rules.{rules}
use Rattle.agreement.proofs.logs.Logs.extend.Goals as goal

pub loop-l-init : goal.loop-l-init
loop-l-init c = ((search rules, search rules), (search rules, search follow_all))

pub loop-l-preserved-then-all-size : goal.loop-l-preserved-then-all-size
loop-l-preserved-then-all-size c = ((search far_few, search rules), (search rules, search follow_far))

pub loop-l-preserved-then-all-size-2 : goal.loop-l-preserved-then-all-size-2
loop-l-preserved-then-all-size-2 c = ((search rules, search rules), (search rules, search follow_same))

pub loop-l-preserved : goal.loop-l-preserved
loop-l-preserved c = ((search rules, search rules), (search rules, search follow_majority))

pub returns-in-loop-l : goal.returns-in-loop-l
returns-in-loop-l c = top_majority _ _ _ _ _ _ _ _ _
    c.loop-l.invariant.1.1
    c.loop-l.invariant.1.0 c.args.self.now.readable _ _ _
    c.majority_sender-c.ensures c.narrow-next.ensures c.size-in-loop-l-2.ensures.0
    c.if-all-size-3.false (search rules) (search rules) _ c.longest_at.ensures

pub returns : goal.returns
returns c = search top_full
