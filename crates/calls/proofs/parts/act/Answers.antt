use Rattle.calls.proofs.ActCases.{act_refused, act_by_11, act_by_22, acts_by, act_acting}
use Rattle.calls.proofs.parts.act.Goals as goal

pub returns-in-Err : goal.returns-in-Err
returns-in-Err c = rw c.refused.ensures (search (act_refused, c.in-Err.is))

pub returns-then-out-lt-MOST_BYTES : goal.returns-then-out-lt-MOST_BYTES
returns-then-out-lt-MOST_BYTES c = rw c.refused-then-out-lt-MOST_BYTES.ensures (search (act_by_11, c.in_default.is))

pub returns-then-is_idle : goal.returns-then-is_idle
returns-then-is_idle c = rw c.refused-then-is_idle.ensures (search (act_by_22, c.in_default.is))

pub act_at-made-requires : goal.act_at-made-requires
act_at-made-requires c = search (act_acting, c.in_default.is)

pub returns : goal.returns
returns c = search (acts_by, c.in_default.is)
