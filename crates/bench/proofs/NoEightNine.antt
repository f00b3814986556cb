-- 8 and 9 never arise after Open: worked out from a list of calls, no refusal has these numbers, since no row has. Assumes
-- nothing.
use Prim.Native.Nat.{ℕ}
use mathlib.Core.Bool.{false}
use mathlib.Core.Option.{some}
use mathlib.Core.Path.{◌≡◌, refl}
use Rattle.message.proofs.CauseLaws.{listed, fails_by, unlisted}
use Rattle.bench.specs.Terms.{Seat}
use Rattle.bench.specs.Calls.{Call, begin, receive, act, find}
use Rattle.bench.specs.History.{History, causes, refusal}

abbrev NotEightNine : ℕ → Type 0
NotEightNine k = (k ≡ 8 → ⊥) × (k ≡ 9 → ⊥)

no_row : (S : Seat) (p : History) (c : Call) → (listed 8 (causes S p c) ≡ false) × (listed 9 (causes S p c) ≡ false)
no_row S p (begin b) = (refl, refl)
no_row S p (receive bytes) = (refl, refl)
no_row S p (act block priority out) = (refl, refl)
no_row S p (find e) = (refl, refl)

pub no_eight_or_nine : (S : Seat) (p : History) (c : Call) (k : ℕ) → refusal S p c ≡ some k → NotEightNine k
unfolding refusal
no_eight_or_nine S p c k r =
    let apart : (j : ℕ) → listed j (causes S p c) ≡ false → k ≡ j
    → ⊥ = λ j n e. unlisted (causes S p c) j n (fails_by (causes S p c) j (rw (← e) r)) in
    (apart 8 (no_row S p c).0, apart 9 (no_row S p c).1)
