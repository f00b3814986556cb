-- The laws that the proofs of functions over numbers cite: two bytes, a number written, and the next number of each loop that
-- reads, writes or compares numbers. Assumes nothing.
use Prim.Native.Nat.{ℕ, suc, ◌+◌, ◌-◌, ◌*◌, ◌/◌, ◌%◌, ◌≤◌, ◌<◌}
use native.Mathlib.Omega.{arith}
use native.Mathlib.Numerals.{add-one}
use mathlib.Core.Path.{◌≡◌, sym, ap, ◌∙◌}
use mathlib.Core.List.{List, [], ◌∷◌, ◌++◌, map}
use mathlib.Core.Bool.{Bool, ◌&&◌, ◌||◌, or_assoc, and_assoc, and-true}
use lib.Dec.{eqb}
use lib.ListN.{length, get_or, set, take}
use borrow.Author.Tests.{ne_eqb, eqb-true, eqb-false}
use lib.Bits.{bit_or, bit_xor, or_zero_l, or_add_and, xor_self, xor_add_and, and_le_l, and_le_r}
use lib.Seq.{take-suc, take-suc-set}
use Rattle.std.proofs.lemmas.List.{map-append, length-map, length-take-le, take_all}
use Rattle.message.specs.Choice.{any_of}
use Rattle.message.specs.Message.{any_zero}
use Rattle.message.specs.Numbers.{put, number_at, numbers_at, bytes_for}
use Rattle.message.specs.Asks.{alike}
use Rattle.message.proofs.TestLaws.{either, or_no}
use Rattle.message.proofs.NumberLaws.{length_numbers, numbers_more}

-- ---- numbers by their bytes

pub two_bytes : (s : List ℕ) (a x y : ℕ) → x ≡ get_or s a 0 → y ≡ get_or s (a + 1) 0 → x + y * 256 ≡ number_at 2 s a
unfolding number_at
two_bytes s a x y e f = omega arith

-- ---- writing a number

pub put_byte : (l : List ℕ) (p left x : ℕ) → 0 < left
    → put l p (bytes_for left x) ≡ put (set l p (x % 256)) (p + 1) (bytes_for (left - 1) (x / 256))
unfolding put bytes_for
put_byte l p left x h = let e : left ≡ suc (left - 1) = omega arith in ap (λ (k : ℕ). put l p (bytes_for k x)) e

pub put_no_byte : (l : List ℕ) (p left x : ℕ) → left ≤ 0 → put l p (bytes_for left x) ≡ l
unfolding put bytes_for
put_no_byte l p left x h = let e : left ≡ 0 = omega arith in ap (λ (k : ℕ). put l p (bytes_for k x)) e

-- ---- the next number

-- looking for a zero
pub zero_next : (w : ℕ) (s : List ℕ) (p i x : ℕ) (z : Bool) → z ≡ any_zero (numbers_at w s p i) → x ≡ number_at w s (p + w * i)
    → (z || eqb x 0) ≡ any_zero (numbers_at w s p (i + 1))
unfolding any_of
zero_next w s p i x z e q =
    (λ j. e j || eqb (q j) 0) ∙ sym (ap any_zero (numbers_more w s p i) ∙ more (numbers_at w s p i) (number_at w s (p + w * i)))
  where
    more : (xs : List ℕ) (x : ℕ) → any_zero (xs ++ (x ∷ [])) ≡ (any_zero xs || eqb x 0)
    more [] x = or_no (eqb x 0)
    more (y ∷ ys) x = ap (λ (b : Bool). eqb y 0 || b) (more ys x) ∙ sym (or_assoc (eqb y 0) (any_zero ys) (eqb x 0))

-- the values of a slice's first places, and of the next
pub values_next : {A : Type 0} (value : A → ℕ) (l : List A) (i : ℕ) (x : A) → i < length l → x ≡ get_or l i x
    → map value (take (i + 1) l) ≡ map value (take i l) ++ (value x ∷ [])
values_next value l i x h e =
    ap (map value) (ap (λ (n : ℕ). take n l) (add-one i) ∙ take-suc l i x h)
    ∙ map-append value (take i l) (get_or l i x ∷ [])
    ∙ ap (λ y. map value (take i l) ++ (value y ∷ [])) (sym e)

pub values_stored : {A : Type 0} (value : A → ℕ) (l : List A) (i : ℕ) (x : A) → i < length l
    → map value (take (i + 1) (set l i x)) ≡ map value (take i l) ++ (value x ∷ [])
values_stored value l i x h =
    ap (map value) (ap (λ (n : ℕ). take n (set l i x)) (add-one i) ∙ take-suc-set l i x h) ∙ map-append value (take i l) (x ∷ [])

pub values_length : {A : Type 0} (value : A → ℕ) (l : List A) (i : ℕ) → i ≤ length l → length (map value (take i l)) ≡ i
values_length value l i h = length-map (take i l) value ∙ length-take-le i l h

-- ---- comparing numbers: what differs is gathered in one number

or_none : (a b : ℕ) → bit_or a b ≡ 0 → (a ≡ 0) × (b ≡ 0)
or_none a b e =
    let s = or_add_and a b in
    let l = and_le_l a b in
    let r = and_le_r a b in
    (omega arith, omega arith)

xor_none : (a b : ℕ) → bit_xor a b ≡ 0 → a ≡ b
xor_none a b e =
    let s = xor_add_and a b in
    let l = and_le_l a b in
    let r = and_le_r a b in
    omega arith

gathered : (d x y : ℕ) → eqb (bit_or d (bit_xor x y)) 0 ≡ (eqb d 0 && eqb x y)
gathered d x y =
    either (eqb d 0)
    (λ t. either (eqb x y)
    (λ u. ap (λ (n : ℕ). eqb (bit_or n (bit_xor x y)) 0) (eqb-true d 0 t) ∙ ap (λ (n : ℕ). eqb n 0) (or_zero_l (bit_xor x y))
    ∙ ap (λ (n : ℕ). eqb (bit_xor n y) 0) (eqb-true x y u) ∙ ap (λ (n : ℕ). eqb n 0) (xor_self y) ∙ rw (t, u))
    (λ u. ne_eqb (bit_or d (bit_xor x y)) 0 (λ g. eqb-false x y u (xor_none x y (or_none d (bit_xor x y) g).1)) ∙ rw (t, u)))
    (λ t. ne_eqb (bit_or d (bit_xor x y)) 0 (λ g. eqb-false d 0 t (or_none d (bit_xor x y) g).0) ∙ rw t)

pub gather_next : (w : ℕ) (s ns : List ℕ) (p i d d' e r x : ℕ) → length ns ≡ i → eqb d 0 ≡ alike (numbers_at w s p i) ns
    → r ≡ number_at w s (p + w * i) → e ≡ bit_xor r x → d' ≡ bit_or d e → eqb d' 0 ≡ alike (numbers_at w s p (i + 1)) (ns ++ (x ∷ []))
unfolding alike
gather_next w s ns p i d d' e r x n a q f g =
    ap (λ (m : ℕ). eqb m 0) (g ∙ ap (bit_or d) f) ∙ gathered d r x
    ∙ (λ j. a j && eqb (q j) x)
    ∙ sym (ap (λ (l : List ℕ). alike l (ns ++ (x ∷ []))) (numbers_more w s p i)
    ∙ more (numbers_at w s p i) ns (number_at w s (p + w * i)) x (length_numbers w s p i ∙ sym n))
  where
    more : (ms ns : List ℕ) (y x : ℕ) → length ms ≡ length ns → alike (ms ++ (y ∷ [])) (ns ++ (x ∷ [])) ≡ (alike ms ns && eqb y x)
    more [] [] y x l = and-true (eqb y x)
    more [] (n ∷ ns) y x l = absurd (omega arith)
    more (m ∷ ms) [] y x l = absurd (omega arith)
    more (m ∷ ms) (n ∷ ns) y x l =
        ap (λ (b : Bool). eqb m n && b) (more ms ns y x (omega arith)) ∙ sym (and_assoc (eqb m n) (alike ms ns) (eqb y x))

pub gather_end : {A : Type 0} (value : A → ℕ) (w : ℕ) (s : List ℕ) (p i : ℕ) (l : List A) (r : Bool) (d z : ℕ) → r ≡ eqb d z → z ≡ 0
    → eqb d 0 ≡ alike (numbers_at w s p i) (map value (take i l)) → length l ≤ i → i ≤ length l
    → r ≡ alike (numbers_at w s p (length l)) (map value l)
gather_end value w s p i l r d z e none f h g =
    let all : i ≡ length l = omega arith in
    e ∙ ap (eqb d) none ∙ f ∙ (λ j. alike (numbers_at w s p (all j)) (map value (take_all i l h j)))
