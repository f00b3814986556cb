-- That the numbers of a volume's calls fit the code's types, as a test to be computed. Assumes nothing.
use Prim.Native.Nat.{ℕ, zero, suc, ◌^◌, ◌<◌}
use native.Mathlib.Omega.{arith}
use mathlib.Core.Path.{◌≡◌}
use mathlib.Core.List.{List, [], ◌∷◌}
use mathlib.Core.Bool.{Bool, true, ◌&&◌, and-eq-true_iff}
use lib.Dec.{ltb}
use lib.ListN.{length}
use borrow.Author.Tests.{ltb-true}
use Rattle.message.specs.Numbers.{AllBelow}
use Rattle.bench.specs.Calls.{Call, begin, receive, act, Typed, AllTyped, find}
use Rattle.demand.specs.Premises.{Volume, Keeps}
use Rattle.demand.proofs.ListTests.{all, all_below, below_use, implies, implies_use}

-- bytes, as many as a list may have
abbrev bytes_fit : List ℕ → Bool
bytes_fit s = all (λ (x : ℕ). ltb x 256) s && ltb (length s) (2 ^ 64)

unfoldable pub typedb : Call → Bool
typedb (begin b) = ltb b (2 ^ 32)
typedb (receive bytes) = bytes_fit bytes
typedb (act block priority out) = ltb block.name (2 ^ 64) && (ltb block.count (2 ^ 16) && (ltb priority (2 ^ 64) && bytes_fit out))
typedb (find e) = ltb e (2 ^ 32)

all_below_lem : (s : List ℕ) → all (λ (x : ℕ). ltb x 256) s ≡ true → AllBelow 256 s
unfolding all
all_below_lem [] e i = omega arith
all_below_lem (x ∷ xs) e zero = ltb-true x 256 ((and-eq-true_iff (ltb x 256) _).0 e).0
all_below_lem (x ∷ xs) e (suc i) = all_below_lem xs ((and-eq-true_iff (ltb x 256) _).0 e).1 i

bytes_fit_lem : (s : List ℕ) → bytes_fit s ≡ true → AllBelow 256 s × (length s < 2 ^ 64)
bytes_fit_lem s e = let x = (and-eq-true_iff _ _).0 e in (all_below_lem s x.0, ltb-true (length s) (2 ^ 64) x.1)

typed : (c : Call) → typedb c ≡ true → Typed c
unfolding typedb
typed (begin b) e = ltb-true b (2 ^ 32) e
typed (receive bytes) e = bytes_fit_lem bytes e
typed (act block priority out) e =
    let x = (and-eq-true_iff _ _).0 e in
    let y = (and-eq-true_iff _ _).0 x.1 in
    let z = (and-eq-true_iff _ _).0 y.1 in
    let b = bytes_fit_lem out z.1 in
    (ltb-true block.name (2 ^ 64) x.0, ltb-true block.count (2 ^ 16) y.0, ltb-true priority (2 ^ 64) z.0, b.0, b.1)
typed (find n) e = ltb-true n (2 ^ 32) e

all_typed : (cs : List Call) → all typedb cs ≡ true → AllTyped cs
unfolding all
all_typed [] e = tt
all_typed (c ∷ cs) e = let x = (and-eq-true_iff (typedb c) (all typedb cs)).0 e in (typed c x.0, all_typed cs x.1)

-- the rule-keepers' calls
unfoldable pub volume_typedb : Volume → Bool
volume_typedb W = all_below W.terms.n (λ (i : ℕ). implies (W.keeper i) (all typedb (W.calls i)))

pub volume_typed : (W : Volume) → volume_typedb W ≡ true → (i : ℕ) → Keeps W i → AllTyped (W.calls i)
unfolding volume_typedb
volume_typed W e i k = all_typed (W.calls i) (implies_use _ _ (below_use W.terms.n _ e i k.0) k.1)
