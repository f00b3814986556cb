-- Tests over a list and over the numbers below n, and what a test that holds gives. Assumes nothing.
use Prim.Native.Nat.{ℕ, zero, suc, ◌<◌}
use native.Mathlib.Omega.{arith}
use mathlib.Core.Path.{◌≡◌, refl, ap, ◌∙◌}
use mathlib.Core.Logic.{inl, inr}
use mathlib.Core.List.Memᴰ
use mathlib.Core.List.{List, [], ◌∷◌, Memᴰ as Mem}
use mathlib.Core.Bool.{Bool, true, false, ◌&&◌, ◌||◌, false≢true, and-eq-true_iff}
use lib.Dec.{eqb}
use borrow.Author.Tests.{eqb-true, eqb-false}
use Rattle.message.proofs.TestLaws.{either}

-- every one of the list
unfoldable pub all : {A : Type 0} → (A → Bool) → List A → Bool
all p [] = true
all p (x ∷ xs) = p x && all p xs

pub all_use : {A : Type 0} (p : A → Bool) (xs : List A) → all p xs ≡ true → (x : A) → Mem x xs → p x ≡ true
unfolding all
all_use p [] e x i = absurd (Memᴰ.not-nil i)
all_use p (y ∷ ys) e x i =
    let q = (and-eq-true_iff (p y) (all p ys)).0 e in
    elim (Memᴰ.cases_cons i) [ inl s ↦ ap p s ∙ q.0 | inr j ↦ all_use p ys q.1 x j ]

-- some one of the list
unfoldable pub any : {A : Type 0} → (A → Bool) → List A → Bool
any p [] = false
any p (x ∷ xs) = p x || any p xs

pub any_use : {A : Type 0} (p : A → Bool) (xs : List A) → any p xs ≡ true → (x : A) × Mem x xs × (p x ≡ true)
unfolding any
any_use p [] e = absurd (false≢true e)
any_use {A} p (y ∷ ys) e = go (p y) refl e (λ q. any_use p ys q)
  where
    go : (t : Bool) → p y ≡ t → (t || any p ys) ≡ true → (any p ys ≡ true → (x : A) × Mem x ys × (p x ≡ true))
        → (x : A) × Mem x (y ∷ ys) × (p x ≡ true)
    go true q f below = (y, Mem.head refl, q)
    go false q f below = let z = below f in (z.0, Mem.tail z.1, z.2)

-- every number below n
unfoldable pub all_below : ℕ → (ℕ → Bool) → Bool
all_below zero p = true
all_below (suc k) p = p k && all_below k p

pub below_use : (n : ℕ) (p : ℕ → Bool) → all_below n p ≡ true → (i : ℕ) → i < n → p i ≡ true
unfolding all_below
below_use zero p e i l = absurd (omega arith)
below_use (suc k) p e i l =
    let q = (and-eq-true_iff (p k) (all_below k p)).0 e in
    either (eqb i k)
    (λ s. ap p (eqb-true i k s) ∙ q.0)
    (λ s. let d = eqb-false i k s in below_use k p q.1 i (omega arith))

-- the second test, where the first holds
abbrev pub implies : Bool → Bool → Bool
implies true b = b
implies false b = true

pub implies_use : (a b : Bool) → implies a b ≡ true → a ≡ true → b ≡ true
implies_use true b e q = e
implies_use false b e q = absurd (false≢true q)
