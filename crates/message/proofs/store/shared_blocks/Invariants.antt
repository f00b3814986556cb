use Prim.Native.Nat.{◌+◌, ◌-◌}
use mathlib.Core.Path.{◌≡◌}
use Rattle.message.specs.Logs.{shared_length}
use Rattle.message.specs.Store.{log_at}
use Rattle.message.proofs.store.shared_blocks.Given as goal

abbrev pub invariant-loop-i : goal.invariant-loop-i
invariant-loop-i l =
    shared_length (log_at l.names l.counts l.a l.k) (log_at l.names l.counts l.b l.k)
    ≡ l.i + shared_length (log_at l.names l.counts (l.a + l.i) (l.k - l.i)) (log_at l.names l.counts (l.b + l.i) (l.k - l.i))
