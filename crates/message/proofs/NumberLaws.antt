-- Laws of little-endian numbers in bytes, each once, over the width and the place. Assumes nothing.
use Prim.Native.Nat.{ℕ, zero, suc, ◌+◌, ◌-◌, ◌*◌, ◌/◌, ◌%◌, ◌^◌, ◌≤◌, ◌<◌}
use native.Mathlib.Omega.{arith}
use native.Mathlib.Nat.{pow-suc, mul-suc, mul-zero, div-lt_iff_lt-mul, zero-lt-suc, div-div-eq-div-mul, div-one}
use mathlib.Core.Path.{◌≡◌, refl, sym, ap, subst, ◌∙◌}
use mathlib.Core.Bool.{Bool, true, false}
use mathlib.Core.List.{List, [], ◌∷◌, ◌++◌, append_assoc, append-nil}
use native.Mathlib.Numerals.{add-one}
use borrow.Author.Tests.{le-leb}
use borrow.Rule.Slice.PartMut.{put_mid}
use lib.Dec.{leb}
use lib.ListN.{length, get_or, drop, length-append}
use lib.Seq.{drop_at}
use Rattle.std.specs.Int.{byte_at, bytes_low_first}
use Rattle.message.specs.Numbers.{AllBelow, part, put, number_at, number_in, numbers_at, bytes_for, bytes_for_each}
use Rattle.message.proofs.TestLaws.{either}
use Rattle.message.proofs.PartLaws.{slice_put, put-append, part-append, part_ext, part_at, part-drop, append_below}

-- ---- lengths

pub bytes_two : (x : ℕ) → bytes_for 2 x ≡ x % 256 ∷ x / 256 % 256 ∷ []
unfolding bytes_for
bytes_two x = refl

pub bytes_four : (x : ℕ) → bytes_for 4 x ≡ x % 256 ∷ x / 256 % 256 ∷ x / 256 / 256 % 256 ∷ x / 256 / 256 / 256 % 256 ∷ []
unfolding bytes_for
bytes_four x = refl

pub length_bytes : (w x : ℕ) → length (bytes_for w x) ≡ w
unfolding bytes_for
length_bytes zero x = refl
length_bytes (suc w) x = ap suc (length_bytes w (x / 256))

pub length_bytes_each : (w : ℕ) (xs : List ℕ) → length (bytes_for_each w xs) ≡ w * length xs
unfolding bytes_for_each
length_bytes_each w [] = sym (mul-zero w)
length_bytes_each w (x ∷ xs) =
    length-append (bytes_for w x) (bytes_for_each w xs) ∙ omega (arith, length_bytes w x, length_bytes_each w xs, mul-suc w (length xs))

pub bytes_each_append : (w : ℕ) (xs ys : List ℕ) → bytes_for_each w (xs ++ ys) ≡ bytes_for_each w xs ++ bytes_for_each w ys
unfolding bytes_for_each
bytes_each_append w [] ys = refl
bytes_each_append w (x ∷ xs) ys =
    ap (λ (l : List ℕ). bytes_for w x ++ l) (bytes_each_append w xs ys)
    ∙ sym (append_assoc (bytes_for w x) (bytes_for_each w xs) (bytes_for_each w ys))

pub length_numbers : (w : ℕ) (s : List ℕ) (a k : ℕ) → length (numbers_at w s a k) ≡ k
unfolding numbers_at
length_numbers w s a zero = refl
length_numbers w s a (suc k) = ap suc (length_numbers w s (a + w) k)

-- ---- numbers, and one more

pub numbers_more : (w : ℕ) (s : List ℕ) (p k : ℕ) → numbers_at w s p (k + 1) ≡ numbers_at w s p k ++ (number_at w s (p + w * k) ∷ [])
unfolding numbers_at
numbers_more w s p k = ap (numbers_at w s p) (add-one k) ∙ go p k
  where
    go : (p k : ℕ) → numbers_at w s p (suc k) ≡ numbers_at w s p k ++ (number_at w s (p + w * k) ∷ [])
    go p zero = let e : p ≡ p + w * 0 = omega (arith, mul-zero w) in ap (λ (a : ℕ). number_at w s a ∷ []) e
    go p (suc k) =
        let e : p + w + w * k ≡ p + w * suc k = omega (arith, mul-suc w k) in
        ap (λ (t : List ℕ). number_at w s p ∷ t) (go (p + w) k ∙ ap (λ (a : ℕ). numbers_at w s (p + w) k ++ (number_at w s a ∷ [])) e)

pub bytes_more : (w : ℕ) (o o₀ o₁ xs : List ℕ) (p k x : ℕ) → length xs ≡ k → o₀ ≡ put o p (bytes_for_each w xs)
    → o₁ ≡ put o₀ (p + w * k) (bytes_for w x) → o₁ ≡ put o p (bytes_for_each w (xs ++ (x ∷ [])))
unfolding bytes_for_each
bytes_more w o o₀ o₁ xs p k x n e₀ e₁ =
    let l : length (bytes_for_each w xs) ≡ w * k = length_bytes_each w xs ∙ ap (λ (j : ℕ). w * j) n in
    let f : bytes_for_each w (xs ++ (x ∷ [])) ≡ bytes_for_each w xs ++ bytes_for w x =
    bytes_each_append w xs (x ∷ []) ∙ ap (λ (t : List ℕ). bytes_for_each w xs ++ t) (append-nil (bytes_for w x)) in
    rw (e₁, e₀)
    (sym (ap (put o p) f
    ∙ put-append o p (bytes_for_each w xs) (bytes_for w x)
    ∙ ap (λ (j : ℕ). put (put o p (bytes_for_each w xs)) (p + j) (bytes_for w x)) l))

-- ---- a number, and numbers, depend on their bytes alone
number_part : (w : ℕ) (l m : List ℕ) (a b : ℕ) → part l a w ≡ part m b w → number_at w l a ≡ number_at w m b
unfolding number_at part
number_part zero l m a b e = refl
number_part (suc w) l m a b e =
    let h : get_or l a 0 ≡ get_or m b 0 = cc in
    let t : part l (a + 1) w ≡ part m (b + 1) w = cc in
    let r = number_part w l m (a + 1) (b + 1) t in
    omega arith

-- ---- written and read back

-- at the front of a list
number_bytes : (w x : ℕ) (r : List ℕ) → x < 256 ^ w → number_at w (bytes_for w x ++ r) 0 ≡ x
unfolding number_at bytes_for
number_bytes zero x r h = omega arith
number_bytes (suc w) x r h =
    let d : x / 256 < 256 ^ w = (div-lt_iff_lt-mul (zero-lt-suc 255)).1 (rw (pow-suc 256 w) at h) in
    let l = x % 256 ∷ (bytes_for w (x / 256) ++ r) in
    let e = number_bytes w (x / 256) r d in
    let f : number_at w l (0 + 1) ≡ number_at w (bytes_for w (x / 256) ++ r) 0 =
    number_part w l (bytes_for w (x / 256) ++ r) (0 + 1) 0 (part-drop l 1 0 w) in
    rw (f, e) (omega arith)

numbers_part : (w : ℕ) (l m : List ℕ) (a b k : ℕ) → part l a (w * k) ≡ part m b (w * k) → numbers_at w l a k ≡ numbers_at w m b k
unfolding numbers_at
numbers_part w l m a b zero e = refl
numbers_part w l m a b (suc k) e =
    let z = mul-suc w k in
    let x = number_part w l m a b (part_ext l m a b w (λ i h. part_at l m a b (w * suc k) i e (omega arith))) in
    let y =
    numbers_part w l m (a + w) (b + w) k
    (part_ext l m (a + w) (b + w) (w * k)
    (λ i h. let p : a + w + i ≡ a + (w + i) = omega arith in
    let q : b + w + i ≡ b + (w + i) = omega arith in
    ap (λ (j : ℕ). get_or l j 0) p ∙ part_at l m a b (w * suc k) (w + i) e (omega arith) ∙ ap (λ (j : ℕ). get_or m j 0) (sym q))) in
    λ i. x i ∷ y i

-- numbers in what follows the first m bytes
number_drop : (w : ℕ) (l : List ℕ) (m a : ℕ) → number_at w l (m + a) ≡ number_at w (drop m l) a
number_drop w l m a = number_part w l (drop m l) (m + a) a (part-drop l m a w)

numbers_drop : (w : ℕ) (l : List ℕ) (m a k : ℕ) → numbers_at w l (m + a) k ≡ numbers_at w (drop m l) a k
numbers_drop w l m a k = numbers_part w l (drop m l) (m + a) a k (part-drop l m a (w * k))

numbers_bytes : (w : ℕ) (xs r : List ℕ) → AllBelow (256 ^ w) xs → numbers_at w (bytes_for_each w xs ++ r) 0 (length xs) ≡ xs
unfolding numbers_at bytes_for_each
numbers_bytes w [] r h = refl
numbers_bytes w (x ∷ xs) r h =
    let l = bytes_for w x ++ (bytes_for_each w xs ++ r) in
    let z : 0 + w ≡ w + 0 = omega arith in
    let n = number_bytes w x (bytes_for_each w xs ++ r) (h 0) in
    let t : numbers_at w l (0 + w) (length xs) ≡ xs =
    ap (λ (a : ℕ). numbers_at w l a (length xs)) z
    ∙ numbers_drop w l w 0 (length xs)
    ∙ ap (λ (s : List ℕ). numbers_at w s 0 (length xs)) (drop_at (bytes_for w x) (bytes_for_each w xs ++ r) w (length_bytes w x))
    ∙ numbers_bytes w xs r (λ i. h (suc i)) in
    let e : l ≡ (bytes_for w x ++ bytes_for_each w xs) ++ r = sym (append_assoc (bytes_for w x) (bytes_for_each w xs) r) in
    let P : List ℕ → Type 0 = λ s. numbers_at w s 0 (length (x ∷ xs)) ≡ x ∷ xs in
    subst P e (λ i. n i ∷ t i)

-- the same at the place where they were written
pub number_after : (w x : ℕ) (s r : List ℕ) (a : ℕ) → drop a s ≡ bytes_for w x ++ r → x < 256 ^ w → number_at w s a ≡ x
number_after w x s r a e h =
    let z : a ≡ a + 0 = omega arith in
    ap (number_at w s) z ∙ number_drop w s a 0 ∙ ap (λ (l : List ℕ). number_at w l 0) e ∙ number_bytes w x r h

pub numbers_after : (w : ℕ) (xs s r : List ℕ) (a : ℕ) → drop a s ≡ bytes_for_each w xs ++ r → AllBelow (256 ^ w) xs
    → numbers_at w s a (length xs) ≡ xs
numbers_after w xs s r a e h =
    let z : a ≡ a + 0 = omega arith in
    ap (λ (b : ℕ). numbers_at w s b (length xs)) z
    ∙ numbers_drop w s a 0 (length xs)
    ∙ ap (λ (l : List ℕ). numbers_at w l 0 (length xs)) e
    ∙ numbers_bytes w xs r h

-- ---- read and written back

pub bytes_number : (w : ℕ) (l : List ℕ) (a : ℕ) → AllBelow 256 l → bytes_for w (number_at w l a) ≡ part l a w
unfolding bytes_for number_at part
bytes_number zero l a h = refl
bytes_number (suc w) l a h =
    let b = h a in
    let m : (get_or l a 0 + 256 * number_at w l (a + 1)) % 256 ≡ get_or l a 0 = omega arith in
    let d : (get_or l a 0 + 256 * number_at w l (a + 1)) / 256 ≡ number_at w l (a + 1) = omega arith in
    rw (m, d) (ap (λ (t : List ℕ). get_or l a 0 ∷ t) (bytes_number w l (a + 1) h))

pub bytes_numbers : (w : ℕ) (l : List ℕ) (a k : ℕ) → AllBelow 256 l → bytes_for_each w (numbers_at w l a k) ≡ part l a (w * k)
unfolding bytes_for_each numbers_at part
bytes_numbers w l a zero h = sym (ap (part l a) (mul-zero w))
bytes_numbers w l a (suc k) h =
    let e : w + w * k ≡ w * suc k = omega (arith, mul-suc w k) in
    (λ i. bytes_number w l a h i ++ bytes_numbers w l (a + w) k h i) ∙ part-append l a w (w * k) ∙ ap (part l a) e

-- ---- the library's bytes of a number

bytes_from : (i k x : ℕ) → bytes_low_first i k x ≡ bytes_for k (x / 256 ^ i)
unfolding bytes_for
bytes_from i zero x = refl
bytes_from i (suc k) x =
    let e : x / 256 ^ suc i ≡ x / 256 ^ i / 256 = ap (λ (p : ℕ). x / p) (pow-suc 256 i) ∙ sym (div-div-eq-div-mul x (256 ^ i) 256) in
    let b : byte_at i x ≡ x / 256 ^ i % 256 = byte i x in
    let r = bytes_from (suc i) k x ∙ ap (bytes_for k) e in
    λ j. b j ∷ r j
  where
    byte : (i x : ℕ) → byte_at i x ≡ x / 256 ^ i % 256
    byte zero x = ap (λ (y : ℕ). y % 256) (sym (div-one x))
    byte (suc i) x = refl

bytes_are : (w x : ℕ) → bytes_low_first 0 w x ≡ bytes_for w x
bytes_are w x = bytes_from 0 w x ∙ ap (bytes_for w) (div-one x)

pub bytes_written : (w x : ℕ) (l : List ℕ) (a : ℕ) (ys : List ℕ) → a + w ≤ length l → ys ≡ bytes_low_first 0 w x
    → put_mid a (a + w - a) l ys ≡ put l a (bytes_for w x)
bytes_written w x l a ys h e =
    let b = e ∙ bytes_are w x in
    slice_put l a w ys (ap (λ (t : List ℕ). length t) b ∙ length_bytes w x) h ∙ ap (put l a) b

-- a number by its lowest byte and the others
pub number_next : (w : ℕ) (s : List ℕ) (a b : ℕ) → b ≡ a + 1 → number_at (suc w) s a ≡ get_or s a 0 + 256 * number_at w s b
unfolding number_at
number_next w s a b e = ap (λ (c : ℕ). get_or s a 0 + 256 * number_at w s c) (sym e)

pub number_none : (s : List ℕ) (a : ℕ) → number_at 0 s a ≡ 0
unfolding number_at
number_none s a = refl

-- ---- bounds

pub bytes_below : (w x : ℕ) → AllBelow 256 (bytes_for w x)
unfolding bytes_for
bytes_below zero x i = omega arith
bytes_below (suc w) x zero = omega arith
bytes_below (suc w) x (suc i) = bytes_below w (x / 256) i

pub bytes_each_below : (w : ℕ) (xs : List ℕ) → AllBelow 256 (bytes_for_each w xs)
unfolding bytes_for_each
bytes_each_below w [] i = omega arith
bytes_each_below w (x ∷ xs) i = append_below 256 (bytes_for w x) (bytes_for_each w xs) (bytes_below w x) (bytes_each_below w xs) i

pub number_below : (w : ℕ) (l : List ℕ) (a : ℕ) → AllBelow 256 l → number_at w l a < 256 ^ w
unfolding number_at
number_below zero l a h = omega arith
number_below (suc w) l a h =
    let b = h a in
    let r = number_below w l (a + 1) h in
    let e = pow-suc 256 w in
    omega arith

pub numbers_below : (w : ℕ) (l : List ℕ) (a k : ℕ) → AllBelow 256 l → AllBelow (256 ^ w) (numbers_at w l a k)
unfolding numbers_at
numbers_below w l a zero h i = let b = number_below w l a h in omega arith
numbers_below w l a (suc k) h zero = number_below w l a h
numbers_below w l a (suc k) h (suc i) = numbers_below w l (a + w) k h i

-- ---- at any place

module _ (w : ℕ) (s : List ℕ) (a : ℕ) where
  pub number_inside : a + w ≤ length s → number_in w s a ≡ number_at w s a
  unfolding number_in
  number_inside h = simp le-leb

  pub number_in_below : AllBelow 256 s → number_in w s a < 256 ^ w
  unfolding number_in
  number_in_below bytes = either (leb (a + w) (length s)) (λ e. rw e (number_below w s a bytes)) (λ e. rw e (pow_positive w))
    where
      pow_positive : (w : ℕ) → 0 < 256 ^ w
      pow_positive zero = omega arith
      pow_positive (suc w) = rw (pow-suc 256 w) (omega (arith, pow_positive w))

  module _ (v : Bool) (e : v ≡ leb (a + w) (length s)) where
    pub number_found : (r : ℕ) → v ≡ true → r ≡ number_at w s a → r ≡ number_in w s a
    unfolding number_in
    number_found r t q = q ∙ rw (← e, t)

    pub number_missing : v ≡ false → 0 ≡ number_in w s a
    unfolding number_in
    number_missing t = rw (← e, t)
