use Rattle.calls.proofs.CallCases.{begin_refused, begin_by_10, begin_by_20, begins}
use Rattle.calls.proofs.parts.begin.Goals as goal

pub returns-in-Err : goal.returns-in-Err
returns-in-Err c = rw c.refused.ensures (search (begin_refused, c.in-Err.is))

pub returns-then-beat-gt-LAST_BEAT : goal.returns-then-beat-gt-LAST_BEAT
returns-then-beat-gt-LAST_BEAT c = rw c.refused-then-beat-gt-LAST_BEAT.ensures (search (begin_by_10, c.in_default.is))

pub returns-then-is_not_above_last : goal.returns-then-is_not_above_last
returns-then-is_not_above_last c = rw c.refused-then-is_not_above_last.ensures (search (begin_by_20, c.in_default.is))

pub returns : goal.returns
returns c = search (begins, c.in_default.is)
