use Rattle.agreement.proofs.NarrowLaws.{far_chunk, far_none}
use native.Mathlib.Omega.{arith}
use Rattle.agreement.proofs.logs.Logs.narrow_far.Goals as goal

pub returns-then-l-eq0 : goal.returns-then-l-eq0
returns-then-l-eq0 c = far_chunk _ _ _ _ _ _ _ _ (omega arith) c.narrow_chunk.ensures

pub returns : goal.returns
returns c = far_none _ _ _ _ _ _ _
