use Rattle.agreement.proofs.NarrowLaws.{alike_none, alike_next}
use Rattle.agreement.proofs.logs.Logs.same_chunk.Goals as goal

pub loop-i-init : goal.loop-i-init
loop-i-init c = alike_none _ _ _ _

pub loop-i-preserved : goal.loop-i-preserved
loop-i-preserved c = search alike_next
