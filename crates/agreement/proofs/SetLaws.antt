-- Laws of sets of senders: the weight of a set against the weight of others. Assumes nothing.
use Prim.Native.Nat.{ℕ, zero, suc, ◌+◌, ◌≤◌, ◌<◌}
use native.Mathlib.Nat.{le_refl}
use native.Mathlib.Decide.{dec_le}
use native.Mathlib.Omega.{arith}
use mathlib.Core.Path.{◌≡◌, refl, ap, ◌∙◌}
use mathlib.Core.Logic.{◌⊎◌, inl, inr}
use mathlib.Core.Bool.{Bool, true, false, false≢true}
use Rattle.agreement.specs.Sets.{share, weigh, ones, Inside}

-- a sender below n that is in both sets
pub record Meet (n : ℕ) (p q : ℕ → Bool) : Type 0 where
  pub sender : ℕ
  pub below : sender < n
  pub left : p sender ≡ true
  pub right : q sender ≡ true

-- ---- one sender

share_mono : (a b : Bool) (k : ℕ) → (a ≡ true → b ≡ true) → share a k ≤ share b k
share_mono true true k h = omega arith
share_mono true false k h = absurd (false≢true (h refl))
share_mono false b k h = omega arith

share_cover : (a b c : Bool) (k : ℕ) → (c ≡ true → (a ≡ true) ⊎ (b ≡ true)) → share c k ≤ share a k + share b k
share_cover true b true k h = omega arith
share_cover false true true k h = omega arith
share_cover false false true k h = absurd (elim (h refl) [ inl e ↦ false≢true e | inr e ↦ false≢true e ])
share_cover a b false k h = omega arith

share_apart : (a b c : Bool) (k : ℕ) → (a ≡ true → c ≡ true) → (b ≡ true → c ≡ true)
    → ((a ≡ true) × (b ≡ true)) ⊎ (share a k + share b k ≤ share c k)
share_apart true true c k f g = inl (refl, refl)
share_apart true false true k f g = inr (omega arith)
share_apart true false false k f g = absurd (false≢true (f refl))
share_apart false true true k f g = inr (omega arith)
share_apart false true false k f g = absurd (false≢true (g refl))
share_apart false false c k f g = inr (omega arith)

share_none : (a : Bool) (m : ℕ) → share a 1 + m ≡ 0 → a ≡ false
share_none true m e = absurd (omega arith)
share_none false m e = refl

-- ---- sets against each other

-- a set inside another weighs no more
pub weigh_mono : (n : ℕ) (w : ℕ → ℕ) (p q : ℕ → Bool) → Inside n p q → weigh n w p ≤ weigh n w q
unfolding weigh
weigh_mono zero w p q h = omega arith
weigh_mono (suc n) w p q h =
    omega (arith, share_mono (p n) (q n) (w n) (h n (le_refl (suc n))), weigh_mono n w p q (λ i l. h i (omega arith)))

-- a set covered by two others weighs no more than these together
pub weigh_cover : (n : ℕ) (w : ℕ → ℕ) (p q r : ℕ → Bool) → ((i : ℕ) → i < n → r i ≡ true → (p i ≡ true) ⊎ (q i ≡ true))
    → weigh n w r ≤ weigh n w p + weigh n w q
unfolding weigh
weigh_cover zero w p q r h = omega arith
weigh_cover (suc n) w p q r h =
    omega (arith, share_cover (p n) (q n) (r n) (w n) (h n (le_refl (suc n))), weigh_cover n w p q r (λ i l. h i (omega arith)))

-- two sets inside a third, heavier together than it, have a sender in common
pub weigh_meet : (n : ℕ) (w : ℕ → ℕ) (p q r : ℕ → Bool) → Inside n p r → Inside n q r → weigh n w r < weigh n w p + weigh n w q → Meet n p q
unfolding weigh
weigh_meet zero w p q r f g h = absurd (omega arith)
weigh_meet (suc n) w p q r f g h =
    elim (share_apart (p n) (q n) (r n) (w n) (f n (le_refl (suc n))) (g n (le_refl (suc n)))) [
      | inl e ↦ record { sender = n; below = omega arith; left = e.0; right = e.1 }
      | inr l ↦ up (weigh_meet n w p q r (λ i k. f i (omega arith)) (λ i k. g i (omega arith)) (omega arith))
    ]
  where
    up : Meet n p q → Meet (suc n) p q
    up m = record { sender = m.sender; below = omega arith; left = m.left; right = m.right }

-- two sets inside a third that have no sender in common weigh together no more than it
pub weigh_disjoint : (n : ℕ) (w : ℕ → ℕ) (p q r : ℕ → Bool) → Inside n p r → Inside n q r → ((i : ℕ) → i < n → p i ≡ true → q i ≡ true → ⊥)
    → weigh n w p + weigh n w q ≤ weigh n w r
weigh_disjoint n w p q r f g h = elim (dec_le (weigh n w p + weigh n w q) (weigh n w r)) [
  | yes l ↦ l
  | no e ↦ let m : Meet n p q = weigh_meet n w p q r f g (omega arith) in absurd (h m.sender m.below m.left m.right)
]

-- a set that weighs something has a sender in it
pub weigh_some : (n : ℕ) (w : ℕ → ℕ) (p : ℕ → Bool) → 0 < weigh n w p → Meet n p p
weigh_some n w p h = weigh_meet n w p p p (λ i l e. e) (λ i l e. e) (omega arith)

-- ---- the weight of one set

-- the same set below n, the same weight
pub weigh_cong : (n : ℕ) (w : ℕ → ℕ) (p q : ℕ → Bool) → ((i : ℕ) → i < n → p i ≡ q i) → weigh n w p ≡ weigh n w q
unfolding weigh
weigh_cong zero w p q h = refl
weigh_cong (suc n) w p q h =
    let e = h n (le_refl (suc n)) in let r = weigh_cong n w p q (λ i l. h i (omega arith)) in λ i. share (e i) (w n) + r i

-- senders from n on add nothing where none of them is in the set
pub weigh_cut : (n d : ℕ) (w : ℕ → ℕ) (p : ℕ → Bool) → ((i : ℕ) → n ≤ i → i < n + d → p i ≡ false) → weigh (n + d) w p ≡ weigh n w p
unfolding weigh
weigh_cut n zero w p h = let s : n + 0 ≡ n = omega arith in ap (λ (k : ℕ). weigh k w p) s
weigh_cut n (suc d) w p h =
    let s : n + suc d ≡ suc (n + d) = omega arith in
    let e = h (n + d) (omega arith) (omega arith) in
    let r = weigh_cut n d w p (λ i a b. h i a (omega arith)) in
    ap (λ (k : ℕ). weigh k w p) s ∙ (λ i. share (e i) (w (n + d)) + weigh (n + d) w p) ∙ omega arith

-- where the count is 0, no sender is in the set
pub weigh_none : (n : ℕ) (p : ℕ → Bool) (i : ℕ) → weigh n ones p ≡ 0 → i < n → p i ≡ false
unfolding weigh
weigh_none zero p i e l = absurd (omega arith)
weigh_none (suc n) p i e l = elim (dec_le n i) [
  | yes k ↦ let q : i ≡ n = omega arith in ap p q ∙ share_none (p n) (weigh n ones p) e
  | no k ↦ weigh_none n p i (omega arith) (omega arith)
]
