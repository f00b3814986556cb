use Rattle.calls.proofs.CallCases.{receive_refused, receive_by_22, receives-by}
use Rattle.calls.proofs.parts.receive.Goals as goal

pub returns-in-Err : goal.returns-in-Err
returns-in-Err c = rw c.refused.ensures (search (receive_refused, c.in-Err.is))

pub returns-then-is_idle : goal.returns-then-is_idle
returns-then-is_idle c = rw c.refused-then-is_idle.ensures (search (receive_by_22, c.in_default.is))

pub returns : goal.returns
returns c = rw c.given.ensures (search (receives-by, c.in_default.is))
