use Rattle.agreement.proofs.LimitLaws.{passes_none, passes_next}
use Rattle.agreement.proofs.tally.some_passes.Goals as goal

pub loop-i-init : goal.loop-i-init
loop-i-init g c = passes_none _

pub loop-i-preserved : goal.loop-i-preserved
loop-i-preserved g c = passes_next _ _ _ _ c.loop-i.invariant c.test-some.ensures
