-- The tests of whole sets at once: what each says of the senders. Assumes nothing.
use Prim.Native.Nat.{ℕ, ◌+◌, ◌-◌, ◌^◌, ◌≤◌, ◌<◌, max}
use native.Mathlib.Decide.{dec_le}
use native.Mathlib.Omega.{arith}
use mathlib.Core.Bool.{Bool, true, false, not, ◌&&◌, ◌||◌, false≢true, or_assoc}
use mathlib.Core.Path.{◌≡◌, refl, sym, ap, subst, ◌∙◌}
use borrow.Author.Tests.{ltb-true, ltb-false, lt-ltb, le-ltb, leb-true, leb-false, lt-leb, le-leb, eqb-true, eq-eqb}
use lib.Dec.{eqb, leb, ltb}
use Rattle.message.proofs.TestLaws.{either, or_false, or_true}
use Rattle.agreement.specs.Limits.{most_senders}
use Rattle.agreement.specs.Sets.{ones, count, member}
use Rattle.agreement.specs.Steps.{SetOf, Passes}
use Rattle.agreement.proofs.SetLaws.{weigh_none, weigh_some}
use Rattle.agreement.proofs.MaskLaws.{member_past, member_zero, below_digits}

-- ---- whether some sender passes a test

pub some_no : (p : ℕ → Bool) → ((i : ℕ) → i < most_senders → p i ≡ false) → ltb 0 (count most_senders p) ≡ false
some_no p h =
    either (ltb 0 (count most_senders p))
    (λ t. let m = weigh_some most_senders ones p (ltb-true 0 (count most_senders p) t) in
    absurd (false≢true (sym (h m.sender m.below) ∙ m.left)))
    (λ t. t)

pub none_passes : (p : ℕ → Bool) → ltb 0 (count most_senders p) ≡ false → (i : ℕ) → i < most_senders → p i ≡ false
none_passes p e i l = weigh_none most_senders p i (let h = ltb-false 0 (count most_senders p) e in omega arith) l

some_yes : (p : ℕ → Bool) (i : ℕ) → i < most_senders → p i ≡ true → ltb 0 (count most_senders p) ≡ true
some_yes p i l e =
    either (ltb 0 (count most_senders p)) (λ t. t) (λ t. absurd (false≢true (sym (none_passes p t i l) ∙ e)))

-- one test or another
pub some_or : (p q : ℕ → Bool)
    → ltb 0 (count most_senders (λ (i : ℕ). p i || q i)) ≡ (ltb 0 (count most_senders p) || ltb 0 (count most_senders q))
some_or p q =
    either (ltb 0 (count most_senders (λ (i : ℕ). p i || q i)))
    (λ t.
    let m = weigh_some most_senders ones (λ (i : ℕ). p i || q i) (ltb-true 0 (count most_senders (λ (i : ℕ). p i || q i)) t) in
    t ∙ sym (either (p m.sender)
    (λ e. ap (λ (x : Bool). x || ltb 0 (count most_senders q)) (some_yes p m.sender m.below e))
    (λ e.
    ap (λ (x : Bool). ltb 0 (count most_senders p) || x)
    (some_yes q m.sender m.below (sym (ap (λ (x : Bool). x || q m.sender) e) ∙ m.left))
    ∙ or_true (ltb 0 (count most_senders p)))))
    (λ t.
    let a = some_no p (λ i l. (or_false (p i) (q i) (none_passes (λ (j : ℕ). p j || q j) t i l)).0) in
    let b = some_no q (λ i l. (or_false (p i) (q i) (none_passes (λ (j : ℕ). p j || q j) t i l)).1) in
    t ∙ sym (ap (λ (x : Bool). x || ltb 0 (count most_senders q)) a ∙ b))

-- ---- a set is not empty

pub some_in : (p : ℕ → Bool) (set : ℕ) → SetOf p most_senders set → not (eqb set 0) ≡ ltb 0 (count most_senders p)
some_in p set s =
    either (eqb set 0)
    (λ t.
    let e = eqb-true set 0 t in
    ap not t ∙ sym (some_no p (λ i l. sym (s.at i l) ∙ ap (λ (z : ℕ). member z i) e ∙ member_zero i)))
    (λ t.
    ap not t
    ∙ sym (either (ltb 0 (count most_senders p)) (λ y. y) (λ n.
    let b = below_digits 0 most_senders set s.below (λ i x l. s.at i l ∙ none_passes p n i l) in
    absurd (false≢true (sym t ∙ eq-eqb set 0 (omega arith))))))

-- ---- a set reaches n: a sender at n or above is in it

module _ (set n : ℕ) where
  abbrev from : ℕ → Bool
  from i = leb n i && member set i

  pub reach_none : most_senders ≤ n → false ≡ ltb 0 (count most_senders from)
  reach_none h = sym (some_no from (λ i l. ap (λ (t : Bool). t && member set i) (lt-leb n i (omega arith))))

  pub reach_is : (a : ℕ) → set < 2 ^ most_senders → n < most_senders → a ≡ 2 ^ n → leb a set ≡ ltb 0 (count most_senders from)
  reach_is a h l e =
      either (leb a set)
      (λ t.
      t ∙ sym (either (ltb 0 (count most_senders from)) (λ y. y) (λ none.
      let u : n + (most_senders - n) ≡ most_senders = omega arith in
      let b = below_digits n (most_senders - n) set (subst (λ (k : ℕ). set < 2 ^ k) (sym u) h) (λ i x y.
      sym (ap (λ (v : Bool). v && member set i) (le-leb n i x)) ∙ none_passes from none i (omega arith)) in
      let d = leb-true a set t in
      absurd (omega arith))))
      (λ t.
      let d = leb-false a set t in
      t ∙ sym (some_no from (λ i x.
      either (leb n i)
      (λ v. ap (λ (w : Bool). w && member set i) v ∙ member_past set n i (omega arith) (leb-true n i v))
      (λ v. ap (λ (w : Bool). w && member set i) v))))

-- ---- whether some sender passes, by what a test says of each

module _ (says : ℕ → Bool → Type 0) where
  pub passes_none : Passes says 0 false
  passes_none = record { some = λ e. absurd (false≢true e); none = λ e i l. absurd (omega arith) }

  pub passes_next : (n : ℕ) (r x : Bool) → Passes says n r → says n x → Passes says (n + 1) (r || x)
  passes_next n true x h y = record {
    some = λ e. let m = h.some refl in (m.0, omega arith, m.2);
    none = λ e. absurd (false≢true (sym e));
  }
  passes_next n false true h y = record { some = λ e. (n, omega arith, y); none = λ e. absurd (false≢true (sym e)) }
  passes_next n false false h y = record {
    some = λ e. absurd (false≢true e);
    none = λ e i l. elim (dec_le n i) [
      | yes k ↦ let s : i ≡ n = omega arith in subst (λ (j : ℕ). says j false) (sym s) y
      | no k ↦ h.none refl i (omega arith)
    ];
  }

  -- where the test has one answer for each sender
  pub passes_is : (r : Bool) (p : ℕ → Bool) → Passes says most_senders r → ((i : ℕ) (b : Bool) → i < most_senders → says i b → b ≡ p i)
      → r ≡ ltb 0 (count most_senders p)
  passes_is true p h f = let m = h.some refl in sym (some_yes p m.0 m.1 (sym (f m.0 true m.1 m.2)))
  passes_is false p h f = sym (some_no p (λ i l. sym (f i false l (h.none refl i l))))

-- the larger of two numbers is over l where one of them is
over_max : (l a b : ℕ) → ltb l (max a b) ≡ (ltb l a || ltb l b)
over_max l a b =
    either (ltb l a)
    (λ e. let h = ltb-true l a e in rw e (lt-ltb l (max a b) (omega arith)))
    (λ e.
    let h = ltb-false l a e in
    rw e (either (ltb l b)
    (λ f. let k = ltb-true l b f in rw f (lt-ltb l (max a b) (omega arith)))
    (λ f. let k = ltb-false l b f in rw f (le-ltb l (max a b) (omega arith)))))

pub over_largest : (l x y z : ℕ) (r : Bool) → r ≡ ltb l (max (max x y) z) → r ≡ (ltb l x || (ltb l y || ltb l z))
over_largest l x y z r e =
    e ∙ over_max l (max x y) z ∙ ap (λ (t : Bool). t || ltb l z) (over_max l x y) ∙ or_assoc (ltb l x) (ltb l y) (ltb l z)

-- three rows, asked together
pub some_of_three : (p q s : ℕ → Bool)
    → ltb 0 (count most_senders (λ (i : ℕ). p i || (q i || s i)))
    ≡ (ltb 0 (count most_senders p) || (ltb 0 (count most_senders q) || ltb 0 (count most_senders s)))
some_of_three p q s =
    some_or p (λ (j : ℕ). q j || s j) ∙ ap (λ (t : Bool). ltb 0 (count most_senders p) || t) (some_or q s)
