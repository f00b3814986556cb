use mathlib.Core.Path.{◌≡◌}
use Prim.Native.Nat.{ℕ, ◌<◌}
use lib.ListN.{length, get_or}
use Rattle.agreement.specs.Sets.{member}
use Rattle.run.specs.Page.{flag}
use Rattle.run.proofs.slots.put_set.Given as goal

abbrev pub invariant-loop-i : goal.invariant-loop-i
invariant-loop-i l = (length l.flag-items ≡ 32) × ((k : ℕ) → k < l.i → get_or l.flag-items k 0 ≡ flag (member l.set k))
