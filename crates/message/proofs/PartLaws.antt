-- Laws of parts of lists and of writing over a list, each once, over the place. Assumes nothing.
use Prim.Native.Nat.{ℕ, zero, suc, ◌+◌, ◌-◌, ◌≤◌, ◌<◌}
use native.Mathlib.Omega.{arith}
use mathlib.Core.Path.{◌≡◌, refl, sym, ap, ◌∙◌}
use mathlib.Core.List.{List, [], ◌∷◌, ◌++◌, map, append_assoc}
use Rattle.std.proofs.lemmas.List.{map-id, drop-drop, length-take-le}
use lib.Dec.{eqb, ltb}
use lib.ListN.{length, get_or, set, take, drop, replicate, length-set, length-drop, get_or-eq_default}
use lib.Seq.{sets, sets-eq, paste, drop-cons, get_or-set_same, get_or-set_other, set_comm, set_out, ext_get_or, get_or-drop}
use borrow.Author.Tests.{ltb-true, ltb-false, eqb-true, eqb-false}
use borrow.Rule.Slice.PartMut.{put_mid}
use native.Mathlib.Numerals.{add-one}
use Rattle.message.specs.Numbers.{AllBelow, part, put}
use Rattle.message.proofs.TestLaws.{either}

-- ---- part

pub part_nil : (l : List ℕ) (a : ℕ) → part l a 0 ≡ []
unfolding part
part_nil l a = refl

pub part_step : (l : List ℕ) (a k : ℕ) → 0 < k → part l a k ≡ get_or l a 0 ∷ part l (a + 1) (k - 1)
unfolding part
part_step l a k h = let e : k ≡ suc (k - 1) = omega arith in ap (part l a) e

pub length_part : (l : List ℕ) (a k : ℕ) → length (part l a k) ≡ k
unfolding part
length_part l a zero = refl
length_part l a (suc k) = ap suc (length_part l (a + 1) k)

get_d_part : (l : List ℕ) (a k i : ℕ) → i < k → get_or (part l a k) i 0 ≡ get_or l (a + i) 0
unfolding part
get_d_part l a zero i h = absurd (omega arith)
get_d_part l a (suc k) zero h = ap (λ (j : ℕ). get_or l j 0) (omega arith)
get_d_part l a (suc k) (suc i) h = get_d_part l (a + 1) k i (omega arith) ∙ ap (λ (j : ℕ). get_or l j 0) (omega arith)

-- two parts that meet are one
pub part-append : (l : List ℕ) (a j k : ℕ) → part l a j ++ part l (a + j) k ≡ part l a (j + k)
unfolding part
part-append l a zero k =
    let e : a + 0 ≡ a = omega arith in
    let f : k ≡ 0 + k = omega arith in
    ap (λ (b : ℕ). part l b k) e ∙ ap (part l a) f
part-append l a (suc j) k =
    let e : a + suc j ≡ a + 1 + j = omega arith in
    let f : suc (j + k) ≡ suc j + k = omega arith in
    ap (λ (b : ℕ). get_or l a 0 ∷ (part l (a + 1) j ++ part l b k)) e
    ∙ ap (λ (t : List ℕ). get_or l a 0 ∷ t) (part-append l (a + 1) j k)
    ∙ ap (part l a) f

-- the whole list
pub part_all : (l : List ℕ) → part l 0 (length l) ≡ l
part_all l =
    let e = length_part l 0 (length l) in
    ext_get_or 0 (part l 0 (length l)) l e
    (λ i h. let z : 0 + i ≡ i = omega arith in get_d_part l 0 (length l) i (omega arith) ∙ ap (λ (j : ℕ). get_or l j 0) z)

-- lists that hold the same there have the same part
pub part_ext : (l m : List ℕ) (a b k : ℕ) → ((i : ℕ) → i < k → get_or l (a + i) 0 ≡ get_or m (b + i) 0) → part l a k ≡ part m b k
part_ext l m a b k f =
    let e = length_part l a k in
    let g = length_part m b k in
    ext_get_or 0 (part l a k) (part m b k) (omega arith)
    (λ i h. get_d_part l a k i (omega arith) ∙ f i (omega arith) ∙ sym (get_d_part m b k i (omega arith)))

-- the same part, so the same there: the other way of part_ext
pub part_at : (l m : List ℕ) (a b k i : ℕ) → part l a k ≡ part m b k → i < k → get_or l (a + i) 0 ≡ get_or m (b + i) 0
part_at l m a b k i e h = sym (get_d_part l a k i h) ∙ ap (λ (p : List ℕ). get_or p i 0) e ∙ get_d_part m b k i h

-- a part of what follows the first m numbers
pub part-drop : (l : List ℕ) (m a k : ℕ) → part l (m + a) k ≡ part (drop m l) a k
part-drop l m a k =
    part_ext l (drop m l) (m + a) a k
    (λ i h. let e : m + a + i ≡ m + (a + i) = omega arith in ap (λ (j : ℕ). get_or l j 0) e ∙ sym (get_or-drop m l (a + i) 0))

-- ---- put

pub put_nil : (l : List ℕ) (a : ℕ) → put l a [] ≡ l
unfolding put
put_nil l a = refl

pub put_cons : (l : List ℕ) (a x : ℕ) (xs : List ℕ) → put l a (x ∷ xs) ≡ put (set l a x) (a + 1) xs
unfolding put
put_cons l a x xs = refl

pub length-put : (l : List ℕ) (a : ℕ) (xs : List ℕ) → length (put l a xs) ≡ length l
unfolding put
length-put l a [] = refl
length-put l a (x ∷ xs) = length-put (set l a x) (a + 1) xs ∙ length-set l a x

pub put-append : (l : List ℕ) (a : ℕ) (xs ys : List ℕ) → put l a (xs ++ ys) ≡ put (put l a xs) (a + length xs) ys
unfolding put
put-append l a [] ys = ap (λ (k : ℕ). put l k ys) (omega arith)
put-append l a (x ∷ xs) ys = put-append (set l a x) (a + 1) xs ys ∙ ap (λ (k : ℕ). put (put (set l a x) (a + 1) xs) k ys) (omega arith)

-- what is written before something else, and apart from it, may be written after it
set-put : (l : List ℕ) (a x b : ℕ) (ys : List ℕ) → a < b → put (set l a x) b ys ≡ set (put l b ys) a x
unfolding put
set-put l a x b [] h = refl
set-put l a x b (y ∷ ys) h =
    ap (λ (m : List ℕ). put m (b + 1) ys) (set_comm l a b x y (λ e. omega arith)) ∙ set-put (set l b y) a x (b + 1) ys (omega arith)

pub put_swap : (l : List ℕ) (a : ℕ) (xs : List ℕ) (b : ℕ) (ys : List ℕ) → a + length xs ≤ b → put (put l a xs) b ys ≡ put (put l b ys) a xs
unfolding put
put_swap l a [] b ys h = refl
put_swap l a (x ∷ xs) b ys h =
    put_swap (set l a x) (a + 1) xs b ys (omega arith) ∙ ap (λ (m : List ℕ). put m (a + 1) xs) (set-put l a x b ys (omega arith))

-- places before and past what is written keep their values
pub put_below : (l : List ℕ) (a : ℕ) (xs : List ℕ) (j : ℕ) → j < a → get_or (put l a xs) j 0 ≡ get_or l j 0
unfolding put
put_below l a [] j h = refl
put_below l a (x ∷ xs) j h = put_below (set l a x) (a + 1) xs j (omega arith) ∙ get_or-set_other l a j x 0 (λ e. omega arith)

pub put_above : (l : List ℕ) (a : ℕ) (xs : List ℕ) (j : ℕ) → a + length xs ≤ j → get_or (put l a xs) j 0 ≡ get_or l j 0
unfolding put
put_above l a [] j h = refl
put_above l a (x ∷ xs) j h = put_above (set l a x) (a + 1) xs j (omega arith) ∙ get_or-set_other l a j x 0 (λ e. omega arith)

-- what was written is there
put_in : (l : List ℕ) (a : ℕ) (xs : List ℕ) (j : ℕ) → j < length xs → a + length xs ≤ length l → get_or (put l a xs) (a + j) 0 ≡ get_or xs j 0
unfolding put
put_in l a [] j h r = absurd (omega arith)
put_in l a (x ∷ xs) zero h r =
    ap (λ (k : ℕ). get_or (put (set l a x) (a + 1) xs) k 0) (omega arith)
    ∙ put_below (set l a x) (a + 1) xs a (omega arith)
    ∙ get_or-set_same l a x 0 (omega arith)
put_in l a (x ∷ xs) (suc j) h r =
    ap (λ (k : ℕ). get_or (put (set l a x) (a + 1) xs) k 0) (omega arith)
    ∙ put_in (set l a x) (a + 1) xs j (omega arith) (let e = length-set l a x in omega arith)

pub part-put : (l : List ℕ) (a : ℕ) (xs : List ℕ) → a + length xs ≤ length l → part (put l a xs) a (length xs) ≡ xs
part-put l a xs h =
    let e = length_part (put l a xs) a (length xs) in
    ext_get_or 0 (part (put l a xs) a (length xs)) xs e
    (λ i k. get_d_part (put l a xs) a (length xs) i (omega arith) ∙ put_in l a xs i (omega arith) h)

pub part-put_below : (l : List ℕ) (a : ℕ) (xs : List ℕ) (b k : ℕ) → b + k ≤ a → part (put l a xs) b k ≡ part l b k
part-put_below l a xs b k h = part_ext (put l a xs) l b b k (λ i q. put_below l a xs (b + i) (omega arith))

pub part-put_above : (l : List ℕ) (a : ℕ) (xs : List ℕ) (b k : ℕ) → a + length xs ≤ b → part (put l a xs) b k ≡ part l b k
part-put_above l a xs b k h = part_ext (put l a xs) l b b k (λ i q. put_above l a xs (b + i) (omega arith))

-- what is written, what stands before it, and the rest as it was
put_sets : (l : List ℕ) (a : ℕ) (xs : List ℕ) → put l a xs ≡ sets l a xs
unfolding put
put_sets l a [] = refl
put_sets l a (x ∷ xs) = ap (λ (b : ℕ). put (set l a x) b xs) (add-one a) ∙ put_sets (set l a x) (suc a) xs

pub put_parts : (l : List ℕ) (a : ℕ) (xs : List ℕ) → a + length xs ≤ length l → put l a xs ≡ take a l ++ xs ++ drop (a + length xs) l
put_parts l a xs h = put_sets l a xs ∙ sets-eq xs l a h

pub put_front : (l xs : List ℕ) → length xs ≤ length l → put l 0 xs ≡ xs ++ drop (length xs) l
put_front l xs h =
    let e : 0 + length xs ≡ length xs = omega arith in
    put_parts l 0 xs (omega arith) ∙ ap (λ (n : ℕ). xs ++ drop n l) e

-- ---- parts as the library cuts them

pub part_take : (l : List ℕ) (a k : ℕ) → a + k ≤ length l → part l a k ≡ take k (drop a l)
unfolding part
part_take l a zero h = refl
part_take l a (suc k) h =
    ap (λ (t : List ℕ). get_or l a 0 ∷ t) (part_take l (a + 1) k (omega arith) ∙ ap (λ (b : ℕ). take k (drop b l)) (add-one a))
    ∙ ap (take (suc k)) (sym (drop-cons l a 0 (omega arith)))

-- a slice of k places from a on
pub slice_length : {A : Type 0} (l : List A) (a k : ℕ) → a + k ≤ length l → length (take (a + k - a) (drop a l)) ≡ k
slice_length l a k h = length-take-le (a + k - a) (drop a l) (let d = length-drop a l in omega arith) ∙ omega arith

pub slice_part : (l : List ℕ) (a k : ℕ) → a + k ≤ length l → map (λ (x : ℕ). x) (take (a + k - a) (drop a l)) ≡ part l a k
slice_part l a k h =
    let e : a + k - a ≡ k = omega arith in
    map-id (take (a + k - a) (drop a l)) ∙ ap (λ (n : ℕ). take n (drop a l)) e ∙ sym (part_take l a k h)

-- such a slice written over
pub slice_put : (l : List ℕ) (a k : ℕ) (xs : List ℕ) → length xs ≡ k → a + k ≤ length l → put_mid a (a + k - a) l xs ≡ put l a xs
slice_put l a k xs e h =
    let n : a + (a + k - a) ≡ a + length xs = omega arith in
    ap (λ (t : List ℕ). take a l ++ (xs ++ t)) (drop-drop (a + k - a) a l ∙ ap (λ (m : ℕ). drop m l) n)
    ∙ sym (put_parts l a xs (omega arith) ∙ append_assoc (take a l) xs (drop (a + length xs) l))

-- a slice copied to place b
pub slice_copied : (l : List ℕ) (a b k : ℕ) → a + k ≤ length l → b + k ≤ length l
    → paste l b (drop a l) (a + k - a) ≡ put l b (part l a k)
slice_copied l a b k h g =
    let e : a + k - a ≡ k = omega arith in
    let n = length_part l a k in
    let m : b + k ≡ b + length (part l a k) = omega arith in
    let p = sym (part_take l a k h) in
    ap (paste l b (drop a l)) e
    ∙ (λ i. take b l ++ p i ++ drop (m i) l)
    ∙ sym (put_parts l b (part l a k) (omega arith))

-- ---- numbers below a bound

set_below : (B : ℕ) (l : List ℕ) (a x : ℕ) → x < B → AllBelow B l → AllBelow B (set l a x)
set_below B l a x hx h i =
    either (eqb i a)
    (λ e. let q : i ≡ a = eqb-true i a e in
    either (ltb a (length l))
    (λ t. let z = get_or-set_same l a x 0 (ltb-true a (length l) t) in let y : get_or (set l a x) i 0 ≡ x =
    ap (λ (k : ℕ). get_or (set l a x) k 0) q ∙ z in omega arith)
    (λ t. let z = set_out l a x (ltb-false a (length l) t) in let w = h i in let y : get_or (set l a x) i 0 ≡ get_or l i 0 =
    ap (λ (k : List ℕ). get_or k i 0) z in omega arith))
    (λ e. let z = get_or-set_other l a i x 0 (eqb-false i a e) in let w = h i in omega arith)

pub put_all_below : (B : ℕ) (l : List ℕ) (a : ℕ) (xs : List ℕ) → AllBelow B xs → AllBelow B l → AllBelow B (put l a xs)
unfolding put
put_all_below B l a [] hx h = h
put_all_below B l a (x ∷ xs) hx h = put_all_below B (set l a x) (a + 1) xs (λ i. hx (suc i)) (set_below B l a x (hx 0) h)

pub part_below : (B : ℕ) (l : List ℕ) (a k : ℕ) → AllBelow B l → AllBelow B (part l a k)
part_below B l a k h i =
    either (ltb i k)
    (λ t. let e = get_d_part l a k i (ltb-true i k t) in let b = h (a + i) in omega arith)
    (λ t. let n = length_part l a k in
    let j = ltb-false i k t in
    let e = get_or-eq_default (part l a k) 0 {n = i} (omega arith) in
    let b = h 0 in
    omega arith)

pub zeros_below : (B k : ℕ) → 0 < B → AllBelow B (replicate k 0)
zeros_below B zero h i = h
zeros_below B (suc k) h zero = h
zeros_below B (suc k) h (suc i) = zeros_below B k h i

pub one_below : (B x : ℕ) → x < B → AllBelow B (x ∷ [])
one_below B x h zero = h
one_below B x h (suc i) = omega arith

pub append_below : (B : ℕ) (xs ys : List ℕ) → AllBelow B xs → AllBelow B ys → AllBelow B (xs ++ ys)
append_below B [] ys h k i = k i
append_below B (x ∷ xs) ys h k zero = h 0
append_below B (x ∷ xs) ys h k (suc i) = append_below B xs ys (λ j. h (suc j)) k i
