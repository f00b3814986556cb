-- The senders of a set one after another, the lowest first: what each turn of a loop leaves; and those that pass a test. Assumes nothing.
use Prim.Native.Nat.{ℕ, zero, suc, ◌+◌, ◌-◌, ◌/◌, ◌^◌, ◌<◌}
use native.Mathlib.Decide.{dec_le}
use native.Mathlib.Nat.{pow-succ'}
use native.Mathlib.Omega.{arith}
use mathlib.Core.Bool.{Bool, true, false, ◌&&◌, false≢true}
use mathlib.Core.Path.{◌≡◌, sym, ap, subst, ◌∙◌}
use borrow.Author.Tests.{eqb-true, eqb-false}
use lib.Bits.{bit_and, bit_or, and_step}
use lib.Count.{count_trailing_zeros}
use lib.Dec.{eqb}
use lib.Pow.{pow_pos}
use Rattle.std.specs.Int.{w32, bit_at}
use Rattle.std.proofs.lemmas.Nat.Bits.{bit_at_lowest, bit_at-suc, bit_at_and, bit_at-trailing_zeros, same_from_bits}
use Rattle.message.proofs.TestLaws.{either}
use Rattle.agreement.specs.Limits.{most_senders}
use Rattle.agreement.specs.Sets.{share, weigh, ones, count, member, adding, removing}
use Rattle.agreement.specs.Steps.{Lowest, Taken, Filtered}
use Rattle.agreement.proofs.SetLaws.{weigh_cong, weigh_cut}
use Rattle.agreement.proofs.MaskLaws.{added_by, member_zero, adding_lt, adding_same, adding_other, removing_same, removing_other}

-- ---- one turn

lowest_is : (set : ℕ) → (set ≡ 0 → ⊥) → set < 2 ^ most_senders → Lowest set (count_trailing_zeros most_senders set)
unfolding member
lowest_is set n h =
    let t = bit_at-trailing_zeros w32 set (omega arith) h in record {
      few = t.0;
      inside = ap (λ (z : ℕ). eqb z 1) t.1;
      least = λ j l. ap (λ (z : ℕ). eqb z 1) (t.2 j l);
    }

-- without the lowest digit that is 1, as the code takes it out

and_self : (a : ℕ) → bit_and a a ≡ a
and_self a = same_from_bits (bit_and a a) a (λ i. bit_at_and a a i ∙ omega arith)

digit_out : (k n : ℕ) → bit_at n k ≡ 1 → ((j : ℕ) → j < k → bit_at n j ≡ 0) → bit_and n (n - 1) + 2 ^ k ≡ n
digit_out zero n e f =
    let low = sym (bit_at_lowest n) ∙ e in
    let h : (n - 1) / 2 ≡ n / 2 = omega arith in
    let s = and_step n (n - 1) in
    let a = ap (λ (z : ℕ). bit_and (n / 2) z) h ∙ and_self (n / 2) in
    omega arith
digit_out (suc k) n e f =
    let low = sym (bit_at_lowest n) ∙ f 0 (omega arith) in
    let r = digit_out k (n / 2) (sym (bit_at-suc n k) ∙ e) (λ j l. sym (bit_at-suc n j) ∙ f (suc j) (omega arith)) in
    let p = pow_pos k in
    let h : (n - 1) / 2 ≡ n / 2 - 1 = omega arith in
    let s = and_step n (n - 1) in
    let a = ap (λ (z : ℕ). bit_and (n / 2) z) h in
    let t = pow-succ' 2 k in
    omega arith

pub taken_is : (set : ℕ) → (set ≡ 0 → ⊥) → set < 2 ^ most_senders
    → Taken set (count_trailing_zeros most_senders set) (bit_and set (set - 1))
    × (set - bit_and set (set - 1) ≡ 2 ^ count_trailing_zeros most_senders set)
unfolding removing
taken_is set n h =
    let low = lowest_is set n h in
    let t = bit_at-trailing_zeros w32 set (omega arith) h in
    let e = digit_out (count_trailing_zeros most_senders set) set t.1 t.2 in
    ((low, rw (low.inside) (omega arith)), omega arith)

-- with sender i, or without it
pub count_less : (n i : ℕ) (p p' : ℕ → Bool) → i < n → p' i ≡ false → ((j : ℕ) → (j ≡ i → ⊥) → p j ≡ p' j)
    → count n p ≡ share (p i) 1 + count n p'
unfolding weigh
count_less zero i p p' l e h = absurd (omega arith)
count_less (suc n) i p p' l e h = elim (dec_le n i) [
  | yes k ↦
      let s : i ≡ n = omega arith in
      let c = weigh_cong n ones p p' (λ j m. h j (λ same. omega arith)) in
      let a = ap (λ (k : ℕ). share (p k) 1) s in
      let b : share (p' n) 1 ≡ 0 = ap (λ (t : Bool). share t 1) (ap p' (sym s) ∙ e) in
      omega arith
  | no k ↦
      let c = count_less n i p p' (omega arith) e h in
      let a : share (p n) 1 ≡ share (p' n) 1 = ap (λ (t : Bool). share t 1) (h n (λ same. omega arith)) in
      omega arith
]

module _ (left i rest : ℕ) (t : Taken left i rest) where
  -- those that are left and pass a test: sender i, or not, and those of the rest
  pub count_taken : (q : ℕ → Bool)
      → count most_senders (λ (j : ℕ). member left j && q j) ≡ share (q i) 1 + count most_senders (λ (j : ℕ). member rest j && q j)
  count_taken q = rw (t.1)
      (count_less most_senders i (λ (j : ℕ). member left j && q j) (λ (j : ℕ). member (removing left i) j && q j) t.0.few
      (ap (λ (b : Bool). b && q i) (removing_same left i))
      (λ j d. ap (λ (b : Bool). b && q j) (sym (removing_other left i j d)))
      ∙ ap (λ (b : Bool). share (b && q i) 1 + count most_senders (λ (j : ℕ). member (removing left i) j && q j)) t.0.inside)

  pub one_fewer : count most_senders (member left) ≡ 1 + count most_senders (member rest)
  one_fewer = rw (t.1)
      (count_less most_senders i (member left) (member (removing left i)) t.0.few (removing_same left i)
      (λ j d. sym (removing_other left i j d))
      ∙ ap (λ (b : Bool). share b 1 + count most_senders (member (removing left i))) t.0.inside)

  pub fewer : count most_senders (member rest) < count most_senders (member left)
  fewer = let e = one_fewer in omega arith

  -- who is of the rest is another sender than i, and was left before
  pub other : (j : ℕ) → member rest j ≡ true → j ≡ i → ⊥
  other j e same =
      false≢true (sym (removing_same left i) ∙ ap (λ (z : ℕ). member z i) (sym t.1) ∙ ap (member rest) (sym same) ∙ e)

  pub rest_as : (j : ℕ) → (j ≡ i → ⊥) → member rest j ≡ member left j
  rest_as j d = ap (λ (z : ℕ). member z j) t.1 ∙ removing_other left i j d

  pub still_in : (j : ℕ) → member rest j ≡ true → member left j ≡ true
  still_in j e = sym (rest_as j (other j e)) ∙ e

-- nobody is in the empty set
pub count_no_one : (q : ℕ → Bool) → count most_senders (λ (j : ℕ). member 0 j && q j) ≡ 0
unfolding weigh
count_no_one q = weigh_cut 0 most_senders ones (λ (j : ℕ). member 0 j && q j) (λ j a b. ap (λ (t : Bool). t && q j) (member_zero j))

-- ---- those that pass a test

-- kept are those of the set for which the test says so, but for those that are left
pub record Filtering (says : ℕ → Bool → Type 0) (set left kept : ℕ) : Type 0 where
  pub at : (j : ℕ) → j < most_senders → member set j ≡ true → member left j ≡ false → says j (member kept j)
  pub inside : (j : ℕ) → member set j ≡ false → member kept j ≡ false
  pub later : (j : ℕ) → member left j ≡ true → (member set j ≡ true) × (member kept j ≡ false)
  pub below : kept < 2 ^ most_senders

module _ (says : ℕ → Bool → Type 0) (set : ℕ) where
  pub filter_start : (left : ℕ) → left ≡ set → Filtering says set left 0
  filter_start left same = rw same (record {
    at = λ j l e f. absurd (false≢true (sym f ∙ e));
    inside = λ j e. member_zero j;
    later = λ j e. (e, member_zero j);
    below = omega arith;
  })

  module _ (left kept : ℕ) (h : Filtering says set left kept) where
    pub filter_end : left ≡ 0 → Filtered says set kept
    filter_end e = record {
      at = λ j l f. h.at j l f (ap (λ (z : ℕ). member z j) e ∙ member_zero j);
      inside = h.inside;
      below = h.below;
    }

    module _ (i rest : ℕ) (t : Taken left i rest) (r : Bool) (y : says i r) where
      -- the test says this of sender i, whatever is known of the others
      here : (b : Bool) → r ≡ b → (j more : ℕ) → member more i ≡ b → eqb j i ≡ true → says j (member more j)
      here b e j more m q =
          subst (λ (k : ℕ). says k (member more k)) (sym (eqb-true j i q)) (subst (λ (v : Bool). says i v) (e ∙ sym m) y)

      -- it said so before of another sender
      before : (j : ℕ) → j < most_senders → member set j ≡ true → member rest j ≡ false → eqb j i ≡ false → says j (member kept j)
      before j l f g q = h.at j l f (sym (rest_as left i rest t j (eqb-false j i q)) ∙ g)

      pub filter_no : r ≡ false → Filtering says set rest kept
      filter_no e = record {
        at = λ j l f g. either (eqb j i) (here false e j kept (h.later i t.0.inside).1) (before j l f g);
        inside = h.inside;
        later = λ j f. h.later j (still_in left i rest t j f);
        below = h.below;
      }

      pub filter_yes : r ≡ true → (digit : ℕ) → digit ≡ 2 ^ i → Filtering says set rest (bit_or kept digit)
      filter_yes e digit d = rw (added_by kept i digit d) (record {
        at = λ j l f g. either (eqb j i)
            (here true e j (adding kept i) (adding_same kept i))
            (λ q. subst (λ (b : Bool). says j b) (sym (adding_other kept i j (eqb-false j i q))) (before j l f g q));
        inside = λ j f.
            adding_other kept i j (λ same. false≢true (sym f ∙ ap (member set) same ∙ (h.later i t.0.inside).0)) ∙ h.inside j f;
        later = λ j f.
            let m = h.later j (still_in left i rest t j f) in
            (m.0, adding_other kept i j (other left i rest t j f) ∙ m.1);
        below = adding_lt kept i most_senders h.below t.0.few;
      })
