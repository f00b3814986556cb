-- Running totals: worked out afresh and extended they are the same; and the entry of a number stands where `block_holding` and `inside_block`
-- say, and nowhere else. Assumes nothing.
use Prim.Native.Nat.{ℕ, zero, suc, ◌+◌, ◌-◌, ◌*◌, ◌^◌, ◌≤◌, ◌<◌}
use native.Mathlib.Omega.{arith}
use mathlib.Core.Bool.{true, false, not, false≢true}
use mathlib.Core.List.{List, [], ◌∷◌, ◌++◌}
use mathlib.Core.Path.{◌≡◌, refl, sym, ap, ◌∙◌}
use borrow.Author.Tests.{eq-eqb, eqb-true, not-false, ltb-true, ltb-false, lt-ltb, le-ltb}
use lib.Dec.{eqb, ltb}
use lib.ListN.{length, get_or, take, drop, set, length-append, drop_of_length-le}
use Rattle.message.specs.Limits.{most_blocks}
use Rattle.message.specs.Numbers.{AllBelow, put}
use Rattle.message.specs.Logs.{Log, Prefix, counts_of}
use Rattle.message.proofs.TestLaws.{either, or_false}
use Rattle.message.proofs.PartLaws.{put_nil, put_cons, put_front}
use Rattle.message.proofs.LogLaws.{prefix_iff, length_counts, counts_append}
use Rattle.bench.specs.Totals.{totals_from, totals_of, unlike, extended, sum_of, entries_in, block_holding, inside_block}

-- ---- the totals of a list of counts

pub totals_none : (before : ℕ) → totals_from before [] ≡ []
unfolding totals_from
totals_none before = refl

pub totals_more : (before k : ℕ) (ks : List ℕ) → totals_from before (k ∷ ks) ≡ (before + k) ∷ totals_from (before + k) ks
unfolding totals_from
totals_more before k ks = refl

pub length_totals : (before : ℕ) (ks : List ℕ) → length (totals_from before ks) ≡ length ks
unfolding totals_from
length_totals before [] = refl
length_totals before (k ∷ ks) = ap suc (length_totals (before + k) ks)

pub totals_append : (before : ℕ) (xs ys : List ℕ)
    → totals_from before (xs ++ ys) ≡ totals_from before xs ++ totals_from (before + sum_of xs) ys
unfolding totals_from sum_of
totals_append before [] ys = ap (λ (b : ℕ). totals_from b ys) (omega arith)
totals_append before (k ∷ xs) ys =
    ap (λ (l : List ℕ). (before + k) ∷ l)
    (totals_append (before + k) xs ys
    ∙ ap (λ (b : ℕ). totals_from (before + k) xs ++ totals_from b ys) (omega arith))

pub totals_empty : totals_of [] ≡ []
totals_empty = none (totals_of []) (length_totals 0 (counts_of []) ∙ length_counts [])
  where
    none : (l : List ℕ) → length l ≡ 0 → l ≡ []
    none [] e = refl
    none (x ∷ l) e = absurd (omega arith)

-- "the total through block i": of the counts up to it, itself included
pub total_through : (before : ℕ) (ks : List ℕ) (i : ℕ) → i < length ks → get_or (totals_from before ks) i 0 ≡ before + sum_of (take (suc i) ks)
unfolding totals_from sum_of
total_through before [] i h = absurd (omega arith)
total_through before (k ∷ ks) zero h = omega arith
total_through before (k ∷ ks) (suc i) h = let e = total_through (before + k) ks i (omega arith) in omega arith

-- they fit 32 bits: 64 × 65,535 = 4,194,240
pub sum_bound : (ks : List ℕ) → AllBelow (2 ^ 16) ks → sum_of ks ≤ 65535 * length ks
unfolding sum_of
sum_bound [] h = omega arith
sum_bound (k ∷ ks) h = let l = sum_bound ks (λ i. h (suc i)) in let b = h 0 in omega arith

pub entries_fit : (L : Log) → length L ≤ most_blocks → AllBelow (2 ^ 16) (counts_of L) → entries_in L ≤ 4194240
entries_fit L h b = let l = sum_bound (counts_of L) b in let e = length_counts L in omega arith

-- ---- a list that starts with them

-- what stands past them is free
abbrev pub StartsWith : List ℕ → List ℕ → Type 0
StartsWith xs totals = (rest : List ℕ) × (totals ≡ xs ++ rest)

pub alike : (xs totals : List ℕ) → unlike xs totals ≡ false → StartsWith xs totals
unfolding unlike
alike [] totals e = (totals, refl)
alike (x ∷ xs) [] e = absurd (false≢true (sym e))
alike (x ∷ xs) (t ∷ totals) e =
    let (a, b) = or_false (not (eqb t x)) (unlike xs totals) e in
    let (rest, q) = alike xs totals b in
    let same = eqb-true t x (not-false (eqb t x) a) in
    (rest, λ i. same i ∷ q i)

pub unlike_not : (xs totals : List ℕ) → StartsWith xs totals → unlike xs totals ≡ false
unfolding unlike
unlike_not xs totals (rest, e) = ap (unlike xs) e ∙ go xs
  where
    go : (xs : List ℕ) → unlike xs (xs ++ rest) ≡ false
    go [] = refl
    go (x ∷ xs) = rw (eq-eqb x x refl, go xs)

take-append : (xs rest : List ℕ) → take (length xs) (xs ++ rest) ≡ xs
take-append [] rest = refl
take-append (x ∷ xs) rest = ap (λ (l : List ℕ). x ∷ l) (take-append xs rest)

drop-append : (xs rest : List ℕ) → drop (length xs) (xs ++ rest) ≡ rest
drop-append [] rest = refl
drop-append (x ∷ xs) rest = drop-append xs rest

starts_taken : (xs totals : List ℕ) → StartsWith xs totals → take (length xs) totals ≡ xs
starts_taken xs totals (rest, e) = ap (take (length xs)) e ∙ take-append xs rest

pub totals_first : (L : Log) (totals : List ℕ) → StartsWith (totals_of L) totals → take (length L) totals ≡ totals_of L
totals_first L totals s =
    let n : length (totals_of L) ≡ length L = length_totals 0 (counts_of L) ∙ length_counts L in
    ap (λ (k : ℕ). take k totals) (sym n) ∙ starts_taken (totals_of L) totals s

-- ---- extended from the old length on

put_later : (x : ℕ) (l : List ℕ) (a : ℕ) (ys : List ℕ) → put (x ∷ l) (suc a) ys ≡ x ∷ put l a ys
put_later x l a [] = put_nil (x ∷ l) (suc a) ∙ ap (λ (m : List ℕ). x ∷ m) (sym (put_nil l a))
put_later x l a (y ∷ ys) =
    let e : suc a + 1 ≡ suc (a + 1) = omega arith in
    put_cons (x ∷ l) (suc a) y ys
    ∙ ap (λ (k : ℕ). put (x ∷ set l a y) k ys) e
    ∙ put_later x (set l a y) (a + 1) ys ∙ ap (λ (m : List ℕ). x ∷ m) (sym (put_cons l a y ys))

-- what is written past the first numbers leaves them
pub put-after : (xs l ys : List ℕ) → put (xs ++ l) (length xs) ys ≡ xs ++ put l 0 ys
put-after [] l ys = refl
put-after (x ∷ xs) l ys = put_later x (xs ++ l) (length xs) ys ∙ ap (λ (m : List ℕ). x ∷ m) (put-after xs l ys)

append_assoc : (xs ys zs : List ℕ) → (xs ++ ys) ++ zs ≡ xs ++ (ys ++ zs)
append_assoc [] ys zs = refl
append_assoc (x ∷ xs) ys zs = ap (λ (l : List ℕ). x ∷ l) (append_assoc xs ys zs)

-- those of K ++ M from those of K
module _ (K M : Log) where
  totals_joined : totals_of (K ++ M) ≡ totals_of K ++ totals_from (entries_in K) (counts_of M)
  totals_joined =
      let e : 0 + entries_in K ≡ entries_in K = omega arith in
      ap (totals_from 0) (counts_append K M) ∙ totals_append 0 (counts_of K) (counts_of M)
      ∙ ap (λ (b : ℕ). totals_of K ++ totals_from b (counts_of M)) e

  totals_later : drop (length K) (totals_of (K ++ M)) ≡ totals_from (entries_in K) (counts_of M)
  totals_later =
      let n = length_totals 0 (counts_of K) ∙ length_counts K in
      ap (drop (length K)) totals_joined
      ∙ ap (λ (k : ℕ). drop k (totals_of K ++ totals_from (entries_in K) (counts_of M))) (sym n)
      ∙ drop-append (totals_of K) (totals_from (entries_in K) (counts_of M))

-- "equal those worked out afresh": of a log that extends the one whose totals stood
pub extended_totals : (K L : Log) (totals : List ℕ) → Prefix K L → length L ≤ length totals → StartsWith (totals_of K) totals
    → StartsWith (totals_of L) (extended totals (length K) L)
extended_totals K L totals p room (rest, e) =
    let (M, q) = (prefix_iff K L).0 p in
    let n : length (totals_of K) ≡ length K = length_totals 0 (counts_of K) ∙ length_counts K in
    let new = totals_from (entries_in K) (counts_of M) in
    let size : length new ≡ length M = length_totals (entries_in K) (counts_of M) ∙ length_counts M in
    let whole : length K + length M ≡ length L = sym (length-append K M) ∙ ap length q in
    let parts : length totals ≡ length (totals_of K) + length rest = ap length e ∙ length-append (totals_of K) rest in
    let fits : length new ≤ length rest = omega arith in
    let put-new : extended totals (length K) L ≡ put totals (length K) new =
    ap (put totals (length K)) (ap (λ (l : Log). drop (length K) (totals_of l)) (sym q) ∙ totals_later K M) in
    let at_end : put totals (length K) new ≡ totals_of K ++ put rest 0 new =
    ap (λ (l : List ℕ). put l (length K) new) e
    ∙ ap (λ (k : ℕ). put (totals_of K ++ rest) k new) (sym n)
    ∙ put-after (totals_of K) rest new in (
      drop (length new) rest,
      put-new ∙ at_end
          ∙ ap (λ (l : List ℕ). totals_of K ++ l) (put_front rest new fits)
          ∙ sym (append_assoc (totals_of K) new (drop (length new) rest))
          ∙ ap (λ (l : List ℕ). l ++ drop (length new) rest) (sym (totals_joined K M) ∙ ap totals_of q),
    )

-- where the log is no longer than it was, nothing is written
pub totals_kept : (totals : List ℕ) (old : ℕ) (L : Log) → length L ≤ old → extended totals old L ≡ totals
totals_kept totals old L h =
    let n : length (totals_of L) ≡ length L = length_totals 0 (counts_of L) ∙ length_counts L in
    ap (put totals old) (drop_of_length-le (totals_of L) {i = old} (omega arith)) ∙ put_nil totals old

-- ---- where entry e stands

-- In block i, at place j inside it: the blocks before hold e - j entries, and block i more than j.
pub record Stands (ks : List ℕ) (e i j : ℕ) : Type 0 where
  pub there : i < length ks
  pub before : sum_of (take i ks) + j ≡ e
  pub inside : j < get_or ks i 0

pub found_right : (ks : List ℕ) (e : ℕ) → e < sum_of ks → Stands ks e (block_holding ks e) (inside_block ks e)
unfolding block_holding inside_block sum_of
found_right [] e h = absurd (omega arith)
found_right (k ∷ ks) e h =
    either (ltb e k)
    (λ t. rw t (record { there = omega arith; before = omega arith; inside = ltb-true e k t }))
    (λ t.
    let l = ltb-false e k t in
    let r = found_right ks (e - k) (omega arith) in
    let a = r.there in
    let b = r.before in
    rw t (record { there = omega arith; before = omega arith; inside = r.inside }))

pub found_only : (ks : List ℕ) (e i j : ℕ) → Stands ks e i j → (i ≡ block_holding ks e) × (j ≡ inside_block ks e)
unfolding block_holding inside_block sum_of
found_only [] e i j s = let t = s.there in absurd (omega arith)
found_only (k ∷ ks) e zero j s =
    let b = s.before in
    let c = s.inside in
    let t : ltb e k ≡ true = lt-ltb e k (omega arith) in
    rw t (refl, omega arith)
found_only (k ∷ ks) e (suc i) j s =
    let a = s.there in
    let b = s.before in
    let t : ltb e k ≡ false = le-ltb e k (omega arith) in
    let (x, y) = found_only ks (e - k) i j (record { there = omega arith; before = omega arith; inside = s.inside }) in
    rw t (ap suc x, y)

-- It stands there for good: what extends the log leaves its place.
pub found_lasts : (ks ys : List ℕ) (e : ℕ) → e < sum_of ks
    → (block_holding (ks ++ ys) e ≡ block_holding ks e) × (inside_block (ks ++ ys) e ≡ inside_block ks e)
unfolding block_holding inside_block sum_of
found_lasts [] ys e h = absurd (omega arith)
found_lasts (k ∷ ks) ys e h =
    either (ltb e k)
    (λ t. rw t (refl, refl))
    (λ t.
    let l = ltb-false e k t in
    let (x, y) = found_lasts ks ys (e - k) (omega arith) in
    rw t (ap suc x, y))

-- and only an entry below the total stands anywhere: 23 for no other
pub stands_below : (ks : List ℕ) (e i j : ℕ) → Stands ks e i j → e < sum_of ks
unfolding sum_of
stands_below [] e i j s = let t = s.there in absurd (omega arith)
stands_below (k ∷ ks) e zero j s = let b = s.before in let c = s.inside in omega arith
stands_below (k ∷ ks) e (suc i) j s =
    let a = s.there in
    let b = s.before in
    let l = stands_below ks (e - k) i j (record { there = omega arith; before = omega arith; inside = s.inside }) in
    omega arith
