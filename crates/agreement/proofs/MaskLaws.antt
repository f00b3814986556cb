-- Sets of senders as numbers, digit by digit: what the operations of the code make of them. Assumes nothing.
use Prim.Native.Nat.{ℕ, zero, suc, ◌+◌, ◌-◌, ◌*◌, ◌/◌, ◌%◌, ◌^◌, ◌≤◌, ◌<◌, min, max}
use native.Mathlib.Nat.{mod-lt, mod-one, mod-eq_of_lt, pow-suc, pow-succ', two-pow-succ, div-eq_of_lt, div_self, div-lt_iff_lt-mul}
use native.Mathlib.Nat.{lt_of_lt_of_le, mul-mod_left}
use native.Mathlib.Decide.{dec_le}
use native.Mathlib.Omega.{arith}
use mathlib.Core.Bool.{Bool, true, false, not, ◌&&◌, ◌||◌, and-true, and-false}
use mathlib.Core.Path.{◌≡◌, refl, sym, ap, ap₂, subst, ◌∙◌}
use borrow.Author.Tests.{eqb-true, eqb-false}
use lib.Dec.{eqb}
use lib.Arith.{digits_mod, mod-mul}
use lib.Bits.{differ, bit_and, bit_or, bit_xor, and_step, or_step, xor_step, and_shr, or_shr, xor_shr, and_high, or_lt, and_lt, xor_lt}
use lib.Bits.{or_add_and, xor_add_and, xor_zero_r}
use lib.Count.{ones, ones_cat, ones-le}
use lib.Pow.{pow_pos, pow_mono, pow-lt, shl-shr, pow-add}
use Rattle.message.proofs.TestLaws.{either, or_true, or_no}
use Rattle.agreement.specs.Limits.{most_senders}
use Rattle.agreement.specs.Sets.{share, weigh, count, member, adding, removing}
use Rattle.agreement.specs.Sets as sets
use Rattle.agreement.specs.Steps.{SetOf}
use Rattle.agreement.proofs.SetLaws.{weigh_cong}

-- ---- one digit

two_pos : zero < 2
two_pos = omega arith

digit_lt : (x : ℕ) → x % 2 < 2
digit_lt x = mod-lt x two_pos

two_not : (p : ℕ) → suc (suc p) < 2 → ⊥
two_not p h = omega arith

-- a law of two digits holds where it holds of 0 and 1
digits : (A : ℕ → ℕ → Type 0) → A 0 0 → A 0 1 → A 1 0 → A 1 1 → (p q : ℕ) → p < 2 → q < 2 → A p q
digits A a b c d zero zero h k = a
digits A a b c d zero (suc zero) h k = b
digits A a b c d (suc zero) zero h k = c
digits A a b c d (suc zero) (suc zero) h k = d
digits A a b c d zero (suc (suc q)) h k = absurd (two_not q k)
digits A a b c d (suc zero) (suc (suc q)) h k = absurd (two_not q k)
digits A a b c d (suc (suc p)) q h k = absurd (two_not p h)

and_low : (x y : ℕ) → bit_and x y % 2 ≡ min (x % 2) (y % 2)
and_low x y =
    ap (λ (z : ℕ). z % 2) (and_step x y)
    ∙ digits_mod (bit_and (x / 2) (y / 2))
    (digits (λ (p q : ℕ). min p q < 2) (omega arith) (omega arith) (omega arith) (omega arith) (x % 2) (y % 2) (digit_lt x) (digit_lt y))

or_low : (x y : ℕ) → bit_or x y % 2 ≡ max (x % 2) (y % 2)
or_low x y =
    ap (λ (z : ℕ). z % 2) (or_step x y)
    ∙ digits_mod (bit_or (x / 2) (y / 2))
    (digits (λ (p q : ℕ). max p q < 2) (omega arith) (omega arith) (omega arith) (omega arith) (x % 2) (y % 2) (digit_lt x) (digit_lt y))

xor_low : (x y : ℕ) → bit_xor x y % 2 ≡ differ (x % 2) (y % 2)
xor_low x y =
    ap (λ (z : ℕ). z % 2) (xor_step x y)
    ∙ digits_mod (bit_xor (x / 2) (y / 2))
    (digits (λ (p q : ℕ). differ p q < 2) (omega arith) (omega arith) (omega arith) (omega arith) (x % 2) (y % 2) (digit_lt x) (digit_lt y))

-- ---- two sets

module _ (a b i : ℕ) where
  and_digit : bit_and a b / 2 ^ i % 2 ≡ min (a / 2 ^ i % 2) (b / 2 ^ i % 2)
  and_digit = ap (λ (z : ℕ). z % 2) (and_shr a b i) ∙ and_low (a / 2 ^ i) (b / 2 ^ i)

  or_digit : bit_or a b / 2 ^ i % 2 ≡ max (a / 2 ^ i % 2) (b / 2 ^ i % 2)
  or_digit = ap (λ (z : ℕ). z % 2) (or_shr a b i) ∙ or_low (a / 2 ^ i) (b / 2 ^ i)

  xor_digit : bit_xor a b / 2 ^ i % 2 ≡ differ (a / 2 ^ i % 2) (b / 2 ^ i % 2)
  xor_digit = ap (λ (z : ℕ). z % 2) (xor_shr a b i) ∙ xor_low (a / 2 ^ i) (b / 2 ^ i)

  member_and : member (bit_and a b) i ≡ (member a i && member b i)
  unfolding member
  member_and =
      ap (λ (z : ℕ). eqb z 1) and_digit
      ∙ digits (λ (p q : ℕ). eqb (min p q) 1 ≡ (eqb p 1 && eqb q 1)) refl refl refl refl (a / 2 ^ i % 2) (b / 2 ^ i % 2)
      (digit_lt (a / 2 ^ i)) (digit_lt (b / 2 ^ i))

  pub member_or : member (bit_or a b) i ≡ (member a i || member b i)
  unfolding member
  member_or =
      ap (λ (z : ℕ). eqb z 1) or_digit
      ∙ digits (λ (p q : ℕ). eqb (max p q) 1 ≡ (eqb p 1 || eqb q 1)) refl refl refl refl (a / 2 ^ i % 2) (b / 2 ^ i % 2)
      (digit_lt (a / 2 ^ i)) (digit_lt (b / 2 ^ i))

-- what the first has and the second has not
member_less : (a b i : ℕ) → member (bit_xor a (bit_and a b)) i ≡ (member a i && not (member b i))
unfolding member
member_less a b i =
    ap (λ (z : ℕ). eqb z 1) (xor_digit a (bit_and a b) i ∙ ap (λ (z : ℕ). differ (a / 2 ^ i % 2) z) (and_digit a b i))
    ∙ digits (λ (p q : ℕ). eqb (differ p (min p q)) 1 ≡ (eqb p 1 && not (eqb q 1))) refl refl refl refl (a / 2 ^ i % 2) (b / 2 ^ i % 2)
    (digit_lt (a / 2 ^ i)) (digit_lt (b / 2 ^ i))

less_lt : (k a b : ℕ) → a < 2 ^ k → b < 2 ^ k → bit_xor a (bit_and a b) < 2 ^ k
less_lt k a b h l = xor_lt k a (bit_and a b) h (and_lt k a b h l)

-- ---- numbers below a power of two have no sender from there on

pub member_past : (set k i : ℕ) → set < 2 ^ k → k ≤ i → member set i ≡ false
unfolding member
member_past set k i h l = ap (λ (z : ℕ). eqb (z % 2) 1) (div-eq_of_lt (lt_of_lt_of_le h (pow_mono l)))

pub member_zero : (i : ℕ) → member 0 i ≡ false
member_zero i = member_past 0 0 i (omega arith) (omega arith)

-- ---- one sender alone

alone_same : (i : ℕ) → member (2 ^ i) i ≡ true
unfolding member
alone_same i = ap (λ (z : ℕ). eqb (z % 2) 1) (div_self (pow_pos i))

alone_other : (i j : ℕ) → (j ≡ i → ⊥) → member (2 ^ i) j ≡ false
unfolding member
alone_other i j d = elim (dec_le i j) [
  | yes l ↦ member_past (2 ^ i) j j (pow-lt (omega arith)) (omega arith)
  | no l ↦
      let s : i ≡ suc (i - suc j) + j = omega arith in
      let e : 2 ^ i / 2 ^ j ≡ 2 ^ suc (i - suc j) =
      ap (λ (z : ℕ). 2 ^ z / 2 ^ j) s ∙ ap (λ (z : ℕ). z / 2 ^ j) (pow-add 2 (suc (i - suc j)) j) ∙ shl-shr (2 ^ suc (i - suc j)) j in
      ap (λ (z : ℕ). eqb (z % 2) 1) (e ∙ pow-suc 2 (i - suc j)) ∙ ap (λ (z : ℕ). eqb z 1) (mul-mod_left (2 ^ (i - suc j)) 2)
]

-- the set's digit for one sender
and_alone : (set i : ℕ) → bit_and set (2 ^ i) ≡ (set / 2 ^ i % 2) * 2 ^ i
and_alone set i =
    let s : 2 ^ suc i ≡ 2 ^ i + 2 ^ i = two-pow-succ i in
    let u : 1 + i ≡ suc i = omega arith in
    let v : 2 ^ suc i - 2 ^ i ≡ 2 ^ i = omega arith in
    let e : 2 ^ (1 + i) - 2 ^ i ≡ 2 ^ i = ap (λ (z : ℕ). 2 ^ z - 2 ^ i) u ∙ v in
    ap (bit_and set) (sym e) ∙ and_high set 1 i

-- ---- the set and one sender more, or less

digit_in : (set i : ℕ) → member set i ≡ true → set / 2 ^ i % 2 ≡ 1
unfolding member
digit_in set i e = eqb-true (set / 2 ^ i % 2) 1 e

digit_out : (set i : ℕ) → member set i ≡ false → set / 2 ^ i % 2 ≡ 0
unfolding member
digit_out set i e = let h = eqb-false (set / 2 ^ i % 2) 1 e in let l = digit_lt (set / 2 ^ i) in below (set / 2 ^ i % 2) l h
  where
    below : (d : ℕ) → d < 2 → (d ≡ 1 → ⊥) → d ≡ 0
    below zero l h = refl
    below (suc zero) l h = absurd (h refl)
    below (suc (suc d)) l h = absurd (two_not d l)

and_in : (set i : ℕ) → member set i ≡ true → bit_and set (2 ^ i) ≡ 2 ^ i
and_in set i e = and_alone set i ∙ ap (λ (d : ℕ). d * 2 ^ i) (digit_in set i e) ∙ omega arith

and_out : (set i : ℕ) → member set i ≡ false → bit_and set (2 ^ i) ≡ 0
and_out set i e = and_alone set i ∙ ap (λ (d : ℕ). d * 2 ^ i) (digit_out set i e) ∙ omega arith

pub has_is : (set i : ℕ) → eqb (set / 2 ^ i % 2) 1 ≡ member set i
unfolding member
has_is set i = refl

adding_or : (set i : ℕ) → bit_or set (2 ^ i) ≡ adding set i
unfolding adding
adding_or set i =
    either (member set i)
    (λ e. rw e (let a = and_in set i e in let b = or_add_and set (2 ^ i) in omega arith))
    (λ e. rw e (let a = and_out set i e in let b = or_add_and set (2 ^ i) in omega arith))

removing_xor : (set i : ℕ) → bit_xor set (bit_and set (2 ^ i)) ≡ removing set i
unfolding removing
removing_xor set i =
    either (member set i)
    (λ e. rw e (ap (bit_xor set) (and_in set i e) ∙ (let a = and_in set i e in let b = xor_add_and set (2 ^ i) in omega arith)))
    (λ e. rw e (ap (bit_xor set) (and_out set i e) ∙ xor_zero_r set))

pub added_by : (set i a : ℕ) → a ≡ 2 ^ i → bit_or set a ≡ adding set i
added_by set i a e = ap (bit_or set) e ∙ adding_or set i

pub removed_by : (set i a : ℕ) → a ≡ 2 ^ i → bit_xor set (bit_and set a) ≡ removing set i
removed_by set i a e = ap (λ (z : ℕ). bit_xor set (bit_and set z)) e ∙ removing_xor set i

module _ (set i : ℕ) where
  pub adding_lt : (k : ℕ) → set < 2 ^ k → i < k → adding set i < 2 ^ k
  adding_lt k h l = let e = adding_or set i in let b = or_lt k set (2 ^ i) h (pow-lt l) in omega arith

  pub removing_lt : (k : ℕ) → set < 2 ^ k → removing set i < 2 ^ k
  unfolding removing
  removing_lt k h = either (member set i) (λ e. rw e (omega arith)) (λ e. rw e h)

  pub adding_same : member (adding set i) i ≡ true
  adding_same = ap (λ (z : ℕ). member z i) (sym (adding_or set i)) ∙ member_or set (2 ^ i) i
      ∙ ap (λ (t : Bool). member set i || t) (alone_same i) ∙ or_true (member set i)

  pub adding_other : (j : ℕ) → (j ≡ i → ⊥) → member (adding set i) j ≡ member set j
  adding_other j d = ap (λ (z : ℕ). member z j) (sym (adding_or set i)) ∙ member_or set (2 ^ i) j
      ∙ ap (λ (t : Bool). member set j || t) (alone_other i j d) ∙ or_no (member set j)

  pub removing_same : member (removing set i) i ≡ false
  removing_same = ap (λ (z : ℕ). member z i) (sym (removing_xor set i)) ∙ member_less set (2 ^ i) i
      ∙ ap (λ (t : Bool). member set i && not t) (alone_same i) ∙ and-false (member set i)

  pub removing_other : (j : ℕ) → (j ≡ i → ⊥) → member (removing set i) j ≡ member set j
  removing_other j d = ap (λ (z : ℕ). member z j) (sym (removing_xor set i)) ∙ member_less set (2 ^ i) j
      ∙ ap (λ (t : Bool). member set j && not t) (alone_other i j d) ∙ and-true (member set j)

-- ---- a number below 2 ^ (n + d) whose digits from n on are 0 is below 2 ^ n

none_left : (q : ℕ) → q < 2 → q % 2 ≡ 0 → q < 1
none_left q h e = let s = mod-eq_of_lt h in omega arith

pub below_digits : (n d set : ℕ) → set < 2 ^ (n + d) → ((i : ℕ) → n ≤ i → i < n + d → member set i ≡ false) → set < 2 ^ n
below_digits n zero set h none = let s : n + 0 ≡ n = omega arith in subst (λ (k : ℕ). set < 2 ^ k) s h
below_digits n (suc d) set h none =
    let s : n + suc d ≡ suc (n + d) = omega arith in
    let l : set < 2 * 2 ^ (n + d) = subst (λ (z : ℕ). set < z) (ap (λ (k : ℕ). 2 ^ k) s ∙ pow-succ' 2 (n + d)) h in
    let q = (div-lt_iff_lt-mul {k = 2 ^ (n + d)} {x = set} {y = 2} (pow_pos (n + d))).1 l in
    let z = digit_out set (n + d) (none (n + d) (omega arith) (omega arith)) in
    let b = (div-lt_iff_lt-mul {k = 2 ^ (n + d)} {x = set} {y = 1} (pow_pos (n + d))).0 (none_left (set / 2 ^ (n + d)) q z) in
    below_digits n d set (omega arith) (λ i x y. none i x (omega arith))

-- ---- how many are in a set: the digits that are 1

one_digit : (d : ℕ) → d < 2 → ones d ≡ share (eqb d 1) 1
unfolding ones
one_digit zero h = refl
one_digit (suc zero) h = refl
one_digit (suc (suc d)) h = absurd (two_not d h)

low_ones : (k set : ℕ) → ones (set % 2 ^ k) ≡ count k (member set)
unfolding weigh ones member
low_ones zero set = ap ones (mod-one set)
low_ones (suc k) set =
    ap ones (ap (λ (z : ℕ). set % z) (pow-succ' 2 k) ∙ mod-mul set two_pos (pow_pos k))
    ∙ ones_cat k (set / 2 ^ k % 2) (set % 2 ^ k) (mod-lt set (pow_pos k))
    ∙ ap₂ (λ (x y : ℕ). x + y) (one_digit (set / 2 ^ k % 2) (digit_lt (set / 2 ^ k))) (low_ones k set)

ones-count : (k set : ℕ) → set < 2 ^ k → ones set ≡ count k (member set)
ones-count k set h = ap ones (sym (mod-eq_of_lt h)) ∙ low_ones k set

pub size_is : (set : ℕ) → set < 2 ^ most_senders → (ones set ≡ count most_senders (member set)) × (ones set ≤ most_senders)
size_is set h = (ones-count most_senders set h, ones-le most_senders set h)

-- ---- what the code's operations make of two sets

module _ (a b : ℕ) (h : a < 2 ^ most_senders) (l : b < 2 ^ most_senders) where
  pub both_set : SetOf (λ (i : ℕ). member a i && member b i) most_senders (bit_and a b)
  both_set = record { at = λ i m. member_and a b i; below = and_lt most_senders a b h l }

  pub either_set : SetOf (λ (i : ℕ). member a i || member b i) most_senders (bit_or a b)
  either_set = record { at = λ i m. member_or a b i; below = or_lt most_senders a b h l }

  pub first_set : SetOf (λ (i : ℕ). member a i && not (member b i)) most_senders (bit_xor a (bit_and a b))
  first_set = record { at = λ i m. member_less a b i; below = less_lt most_senders a b h l }

-- the size of a set, from the number that tells of it
pub size_of : (p : ℕ → Bool) (set n : ℕ) → SetOf p most_senders set → n ≡ count most_senders (member set) → n ≡ count most_senders p
size_of p set n s e = e ∙ weigh_cong most_senders sets.ones (member set) p s.at
