-- Senders in a loop: counted, walked along, and put in a set. Assumes nothing.
use Prim.Native.Nat.{ℕ, suc, ◌+◌, ◌≤◌}
use native.Mathlib.Omega.{arith}
use mathlib.Core.Bool.{Bool, true, false}
use mathlib.Core.Path.{◌≡◌, refl, ap, ◌∙◌}
use Rattle.agreement.specs.Sets.{share, weigh, count}

pub count_none : (p : ℕ → Bool) → 0 ≡ count 0 p
unfolding weigh
count_none p = refl

-- a test as a number, to be added up
share_is : (t : Bool) → mir.Val.bool_byte t ≡ share t 1
share_is true = refl
share_is false = refl

share_le : (t : Bool) → share t 1 ≤ 1
share_le true = omega arith
share_le false = omega arith

-- one more sender
pub count_next : (p : ℕ → Bool) (n m i : ℕ) (r : Bool) → (n ≤ i) × (n ≡ count i p) → r ≡ p i → m ≡ mir.Val.bool_byte r
    → (n + m ≤ i + 1) × (n + m ≡ count (i + 1) p)
unfolding weigh
count_next p n m i r e q f =
    let s : suc i ≡ i + 1 = omega arith in
    let g : m ≡ share (p i) 1 = f ∙ share_is r ∙ ap (λ (t : Bool). share t 1) q in
    let h : n + m ≡ share (p i) 1 + count i p = omega arith in
    let l = share_le (p i) in
    (omega arith, h ∙ ap (λ (k : ℕ). count k p) s)
