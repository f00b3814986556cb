-- Logs in the lent lists: a turn and the end of each walk that compares, and the answers of the public functions. Assumes nothing.
use Prim.Native.Nat.{ℕ, zero, suc, min, ◌+◌, ◌-◌, ◌*◌, ◌<◌, ◌≤◌}
use native.Mathlib.Omega.{arith}
use mathlib.Core.List.{List, map}
use Rattle.std.proofs.lemmas.List.{map-id}
use borrow.Rule.Slice.PartMut.{put_mid}
use lib.Seq.{paste}
use mathlib.Core.Bool.{Bool, true, false, not, not-not, ◌&&◌, and-eq-true_iff}
use mathlib.Core.Logic.{◌⊎◌, inl, inr}
use mathlib.Core.Path.{◌≡◌, refl, sym, ap, ◌∙◌}
use borrow.Author.Tests.{leb-true, leb-false, eqb-true, eqb-false, eq-eqb, ne_eqb}
use lib.Dec.{leb, eqb}
use lib.ListN.{length, get_or, take, drop}
use Rattle.message.specs.Limits.{most_blocks, head_length, name_width, count_width, block_width}
use Rattle.message.specs.Choice.{pick}
use Rattle.message.specs.Numbers.{part, put, number_at, numbers_at}
use Rattle.message.specs.Logs.{Block, Log, is_prefix, same_log, same_block, shared_length, in_step, names_of, counts_of}
use Rattle.message.specs.Store.{block_at, log_at, within, holds_log, prefix_at, shared_at, matches_at, Stores, store_of, file_of, copy_of}
use Rattle.message.specs.Message.{count_in, names_in, counts_in, blocks_in, log_in}
use Rattle.message.specs.Asks.{BytesAndLog, alike}
use Rattle.message.proofs.TestLaws.{either}
use Rattle.message.proofs.LogLaws.{is_prefix_iff, same_log_iff, prefix_refl, prefix_length, shared_most, shared_covers}
use Rattle.message.proofs.ListedLaws.{length_at_lem, names_at, counts_at, log_step, log_empty, within_of}
use Rattle.message.proofs.Acceptance.{names_read, counts_in_lem, length_blocks}
use Rattle.message.proofs.PartLaws.{slice_length, slice_part, slice_put, slice_copied}
use Rattle.message.proofs.NumberLaws.{length_numbers}

-- ---- the walk along two logs in the lists

-- a turn: alike, or not
shared_step : (names counts : List ℕ) (p q left : ℕ) → 0 < left
    → shared_length (log_at names counts p left) (log_at names counts q left)
    ≡ pick (same_block (block_at names counts p) (block_at names counts q))
    (suc (shared_length (log_at names counts (p + 1) (left - 1)) (log_at names counts (q + 1) (left - 1)))) 0
unfolding shared_length
shared_step names counts p q left h = let e = log_step names counts p left h in let f = log_step names counts q left h in
    λ i. shared_length (e i) (f i)

shared_none : (names counts : List ℕ) (p q left : ℕ) → left ≤ 0 → shared_length (log_at names counts p left) (log_at names counts q left) ≡ 0
unfolding shared_length
shared_none names counts p q left h = let e = log_empty names counts p left h in λ i. shared_length (e i) (log_at names counts q left)

-- how many blocks from places p and q on are alike before two differ, of the k - i that are left
abbrev pub left_alike : List ℕ → List ℕ → ℕ → ℕ → ℕ → ℕ → ℕ
left_alike names counts a b i k = shared_length (log_at names counts (a + i) (k - i)) (log_at names counts (b + i) (k - i))

-- the test of two blocks, on what the code found of them
pub unlike_is : (r : Bool) (n m c d : ℕ) (x y : Block) → r ≡ not (eqb n m && eqb c d) → (n ≡ x.name) × (c ≡ x.count)
    → (m ≡ y.name) × (d ≡ y.count) → same_block x y ≡ not r
unlike_is r n m c d x y e f g = rw (e, f.0, f.1, g.0, g.1) (sym (not-not (same_block x y)))

module _ (names counts : List ℕ) (a b k : ℕ) where
  -- z is the whole, and i blocks of k are passed
  module _ (z i : ℕ) (w : z ≡ i + left_alike names counts a b i k) where
    turn : (t : Bool) → i < k → same_block (block_at names counts (a + i)) (block_at names counts (b + i)) ≡ t
        → left_alike names counts a b i k ≡ pick t (suc (left_alike names counts a b (i + 1) k)) 0
    turn t h e =
        let l : k - i - 1 ≡ k - (i + 1) = omega arith in
        let p : a + i + 1 ≡ a + (i + 1) = omega arith in
        let q : b + i + 1 ≡ b + (i + 1) = omega arith in
        shared_step names counts (a + i) (b + i) (k - i) (omega arith)
        ∙ (λ j. pick (e j) (suc (shared_length (log_at names counts (p j) (l j)) (log_at names counts (q j) (l j)))) 0)

    pub walk_on : i < k → same_block (block_at names counts (a + i)) (block_at names counts (b + i)) ≡ true
        → z ≡ (i + 1) + left_alike names counts a b (i + 1) k
    walk_on h e = let f = turn true h e in omega arith

    pub walk_off : i < k → same_block (block_at names counts (a + i)) (block_at names counts (b + i)) ≡ false → i ≡ z
    walk_off h e = let f = turn false h e in omega arith

    pub walk_end : k ≤ i → i ≤ k → k ≡ z
    walk_end h g = let f = shared_none names counts (a + i) (b + i) (k - i) (omega arith) in omega arith

-- ---- prefix

-- only the first blocks that both have are walked
shared_cut : (names counts : List ℕ) (a b x y k : ℕ) → k ≤ x → k ≤ y → (x ≤ k) ⊎ (y ≤ k)
    → shared_length (log_at names counts a k) (log_at names counts b k) ≡ shared_length (log_at names counts a x) (log_at names counts b y)
unfolding log_at part in_step shared_length
shared_cut names counts a b zero y zero h g c = refl
shared_cut names counts a b (suc x) zero zero h g c = refl
shared_cut names counts a b (suc x) (suc y) zero h g c = absurd (elim c [ inl l ↦ omega arith | inr l ↦ omega arith ])
shared_cut names counts a b zero y (suc k) h g c = absurd (omega arith)
shared_cut names counts a b (suc x) zero (suc k) h g c = absurd (omega arith)
shared_cut names counts a b (suc x) (suc y) (suc k) h g c =
    ap (λ (n : ℕ). pick (same_block (block_at names counts a) (block_at names counts b)) (suc n) 0)
    (shared_cut names counts (a + 1) (b + 1) x y k (omega arith) (omega arith)
    (elim c [ inl l ↦ inl (omega arith) | inr l ↦ inr (omega arith) ]))

-- a log of x blocks is a prefix of one not shorter where the x blocks are alike
prefix_cut : (names counts : List ℕ) (a x b y : ℕ) → x ≤ y
    → eqb (shared_length (log_at names counts a x) (log_at names counts b x)) x ≡ is_prefix (log_at names counts a x) (log_at names counts b y)
prefix_cut names counts a x b y h =
    let s = shared_cut names counts a b x y x (omega arith) h (inl (omega arith)) in
    let m = (shared_most (log_at names counts a x) (log_at names counts b y)).0 in
    let l = length_at_lem names counts a x in
    ap (λ (n : ℕ). eqb n x) s
    ∙ eqb_leb (shared_length (log_at names counts a x) (log_at names counts b y)) x (omega arith)
    ∙ ap (λ (n : ℕ). leb n (shared_length (log_at names counts a x) (log_at names counts b y))) (sym l)
    ∙ sym (shared_covers (prefix_refl (log_at names counts a x)) (log_at names counts b y))
  where
    eqb_leb : (n x : ℕ) → n ≤ x → eqb n x ≡ leb x n
    eqb_leb n x h = either (leb x n) (λ t. let q = leb-true x n t in eq-eqb n x (omega arith) ∙ sym t)
        (λ t. let q = leb-false x n t in ne_eqb n x (λ e. omega arith) ∙ sym t)

-- a log is no prefix of a shorter one
not_longer : (names counts : List ℕ) (a x b y : ℕ) → y < x → is_prefix (log_at names counts a x) (log_at names counts b y) ≡ false
not_longer names counts a x b y h = go (is_prefix (log_at names counts a x) (log_at names counts b y)) refl
  where
    go : (t : Bool) → is_prefix (log_at names counts a x) (log_at names counts b y) ≡ t
        → is_prefix (log_at names counts a x) (log_at names counts b y) ≡ false
    go false e = e
    go true e =
        let p = prefix_length ((is_prefix_iff (log_at names counts a x) (log_at names counts b y)).0 e) in
        let f = length_at_lem names counts a x in
        let g = length_at_lem names counts b y in
        absurd (omega arith)

module _ (names counts : List ℕ) (a x b y : ℕ) (v w : Bool) (e : v ≡ within names counts a x) (f : w ≡ within names counts b y) where
  -- the test of is_prefix, taken apart
  short : ((v && w) && leb x y) ≡ true → ((v && w) ≡ true) × (x ≤ y)
  short t = let s = (and-eq-true_iff (v && w) (leb x y)).0 t in (s.0, leb-true x y s.1)

  pub prefix_is : (r : ℕ) → ((v && w) && leb x y) ≡ true → r ≡ shared_length (log_at names counts a x) (log_at names counts b x)
      → eqb r x ≡ prefix_at names counts a x b y
  unfolding prefix_at
  prefix_is r t q = let s = short t in rw (← e, ← f, s.0) (ap (λ (n : ℕ). eqb n x) q ∙ prefix_cut names counts a x b y s.1)

  pub prefix_not : ((v && w) && leb x y) ≡ false → false ≡ prefix_at names counts a x b y
  unfolding prefix_at
  prefix_not t =
      either (v && w)
      (λ s. rw (← e, ← f, s, not_longer names counts a x b y (leb-false x y (rw s at t))))
      (λ s. rw (← e, ← f, s))

  pub shared_outside : (v && w) ≡ false → (0 ≡ shared_at names counts a x b y) × (0 ≤ most_blocks)
  unfolding shared_at
  shared_outside t = (rw (← e, ← f, t), omega arith)

  pub shared_is : (r k : ℕ) → (v && w) ≡ true → k ≡ min x y → r ≡ shared_length (log_at names counts a k) (log_at names counts b k)
      → (r ≡ shared_at names counts a x b y) × (r ≤ most_blocks)
  unfolding shared_at
  shared_is r k t h q =
      let s = (and-eq-true_iff v w).0 t in
      let m = (within_of names counts a x (sym e ∙ s.0)).few in
      let c : (x ≤ k) ⊎ (y ≤ k) = either (leb x y)
      (λ u. let z = leb-true x y u in inl (omega arith)) (λ u. let z = leb-false x y u in inr (omega arith)) in
      let p = q ∙ shared_cut names counts a b x y k (omega arith) (omega arith) c in
      let n = (shared_most (log_at names counts a x) (log_at names counts b y)).0 in
      let l = length_at_lem names counts a x in
      (rw (← e, ← f, t) p, omega arith)

-- ---- the log in a message

-- a message that holds a log, and a log within the lists of no more blocks
holds_asks : (s names counts : List ℕ) (a k : ℕ) (v w : Bool) → v ≡ holds_log s → w ≡ within names counts a k → (v && w) ≡ true
    → k ≤ count_in s → BytesAndLog s names counts a k
holds_asks s names counts a k v w e f t g =
    let p = (and-eq-true_iff v w).0 t in
    let m = within_of names counts a k (sym f ∙ p.1) in
    let q = (and-eq-true_iff (leb (count_in s) most_blocks) (leb (head_length + block_width * count_in s) (length s))).0 (sym e ∙ p.0) in
    let b = leb-true (head_length + block_width * count_in s) (length s) q.1 in
    record { bytes = omega arith; in_names = m.in_names; in_counts = m.in_counts }

-- blocks whose names stand from byte p on and whose counts stand from byte q on
abbrev blocks_from : List ℕ → ℕ → ℕ → ℕ → Log
blocks_from s p q k = in_step (numbers_at name_width s p k) (numbers_at count_width s q k)

and_swap : (a b c d : Bool) → ((a && b) && (c && d)) ≡ ((a && c) && (b && d))
and_swap true true c d = refl
and_swap true false true d = refl
and_swap true false false d = refl
and_swap false b c d = refl

-- blocks are the same where their names are and their counts are
blocks_alike : (s names counts : List ℕ) (p q a k : ℕ)
    → (alike (numbers_at name_width s p k) (part names a k) && alike (numbers_at count_width s q k) (part counts a k)) ≡ same_log
    (blocks_from s p q k) (log_at names counts a k)
unfolding alike numbers_at part same_log in_step log_at
blocks_alike s names counts p q a zero = refl
blocks_alike s names counts p q a (suc k) =
    and_swap
    (eqb (number_at name_width s p) (get_or names a 0))
    (alike (numbers_at name_width s (p + name_width) k) (part names (a + 1) k))
    (eqb (number_at count_width s q) (get_or counts a 0))
    (alike (numbers_at count_width s (q + count_width) k) (part counts (a + 1) k))
    ∙ ap (λ (v : Bool). (eqb (number_at name_width s p) (get_or names a 0) && eqb (number_at count_width s q) (get_or counts a 0)) && v)
    (blocks_alike s names counts (p + name_width) (q + count_width) (a + 1) k)

pub blocks_are : {s names counts : List ℕ} {a k : ℕ} (r t : Bool) → BytesAndLog s names counts a k
    → r ≡ alike (numbers_at name_width s head_length (length (take (a + k - a) (drop a names)))) (map (λ (x : ℕ). x) (take (a + k - a) (drop a names)))
    → t ≡ alike (numbers_at count_width s (head_length + name_width * k) (length (take (a + k - a) (drop a counts)))) (map (λ (x : ℕ). x) (take (a + k - a) (drop a counts)))
    → (r && t) ≡ same_log (blocks_in s k) (log_at names counts a k)
blocks_are {s} {names} {counts} {a} {k} r t h e f =
    (λ j. cut name_width head_length names r h.in_names e j && cut count_width (head_length + name_width * k) counts t h.in_counts f j)
    ∙ blocks_alike s names counts head_length (head_length + name_width * k) a k
  where
    cut : (w p : ℕ) (l : List ℕ) (r : Bool) → a + k ≤ length l
        → r ≡ alike (numbers_at w s p (length (take (a + k - a) (drop a l)))) (map (λ (x : ℕ). x) (take (a + k - a) (drop a l)))
        → r ≡ alike (numbers_at w s p k) (part l a k)
    cut w p l r g q = q ∙ (λ j. alike (numbers_at w s p (slice_length l a k g j)) (slice_part l a k g j))

module _ (s names counts : List ℕ) (a x : ℕ) (v w : Bool) (e : v ≡ holds_log s) (f : w ≡ within names counts a x) (k : ℕ)
    (g : k ≡ get_or s 0 0) where
  apart : ((v && w) && eqb k x) ≡ true → ((v && w) ≡ true) × (k ≡ x)
  apart t = let p = (and-eq-true_iff (v && w) (eqb k x)).0 t in (p.0, eqb-true k x p.1)

  pub match_is : (r : Bool) → ((v && w) && eqb k x) ≡ true → r ≡ same_log (blocks_in s x) (log_at names counts a x)
      → r ≡ matches_at s names counts a x
  unfolding matches_at
  match_is r t q = let p = apart t in rw (← e, ← f, p.0, ← g, p.1) q

  -- logs of unlike length are not the same
  unlike : (k ≡ x → ⊥) → false ≡ same_log (log_in s) (log_at names counts a x)
  unlike h = go (same_log (log_in s) (log_at names counts a x)) refl
    where
      go : (b : Bool) → same_log (log_in s) (log_at names counts a x) ≡ b → false ≡ same_log (log_in s) (log_at names counts a x)
      go false q = sym q
      go true q =
          let same = ap (λ (L : Log). length L) ((same_log_iff (log_in s) (log_at names counts a x)).0 q) in
          let m = length_blocks s (count_in s) in
          let n = length_at_lem names counts a x in
          absurd (h (omega arith))

  pub match_not : ((v && w) && eqb k x) ≡ false → false ≡ matches_at s names counts a x
  unfolding matches_at
  match_not t =
      either (v && w)
      (λ p. rw (← e, ← f, p) (unlike (eqb-false k x (rw p at t))))
      (λ p. rw (← e, ← f, p))

-- ---- storing, whatever the log: done where the test holds, and nothing changed where it does not

module _ (ok : Bool) (names counts : List ℕ) (a : ℕ) (L : Log) where
  stored_not : ok ≡ false → Stores (store_of ok names counts a L) false names counts
  unfolding store_of
  stored_not t = rw t (record { answered = refl; name_list = refl; count_list = refl })

  stored : (ns cs : List ℕ) → ok ≡ true → ns ≡ put names a (names_of L) → cs ≡ put counts a (counts_of L)
      → Stores (store_of ok names counts a L) true ns cs
  unfolding store_of
  stored ns cs t m n = rw t (record { answered = refl; name_list = m; count_list = n })

-- ---- filing

module _ (names counts : List ℕ) (a : ℕ) (s : List ℕ) (k : ℕ) (g : k ≡ get_or s 0 0) (v w : Bool) (e : v ≡ holds_log s)
    (f : w ≡ within names counts a k) where
  tested : (holds_log s && within names counts a (count_in s)) ≡ (v && w)
  tested = rw (← e, ← g, ← f)

  pub file-outside : (v && w) ≡ false → Stores (file_of names counts a s) false names counts
  file-outside t = stored_not (holds_log s && within names counts a (count_in s)) names counts a (log_in s) (tested ∙ t)

  pub file_asks : (v && w) ≡ true → BytesAndLog s names counts a k
  file_asks t = holds_asks s names counts a k v w e f t (omega arith)

  -- a list with the numbers of a part of it read from bytes
  filed : (w p : ℕ) (l xs : List ℕ) → a + k ≤ length l
      → map (λ (x : ℕ). x) xs ≡ numbers_at w s p (length (take (a + k - a) (drop a l)))
      → put_mid a (a + k - a) l xs ≡ put l a (numbers_at w s p k)
  filed w p l xs h q =
      let e : xs ≡ numbers_at w s p k = sym (map-id xs) ∙ q ∙ ap (numbers_at w s p) (slice_length l a k h) in
      slice_put l a k xs (ap (λ (t : List ℕ). length t) e ∙ length_numbers w s p k) h ∙ ap (put l a) e

  pub file_done : (ns cs : List ℕ) → (v && w) ≡ true
      → map (λ (x : ℕ). x) ns ≡ numbers_at name_width s head_length (length (take (a + k - a) (drop a names)))
      → map (λ (x : ℕ). x) cs ≡ numbers_at count_width s (head_length + name_width * k) (length (take (a + k - a) (drop a counts)))
      → Stores (file_of names counts a s) true (put_mid a (a + k - a) names ns) (put_mid a (a + k - a) counts cs)
  file_done ns cs t m n =
      let h = file_asks t in
      let p : names_in s k ≡ names_of (log_in s) = sym (names_read s k) ∙ ap (λ (j : ℕ). names_of (blocks_in s j)) g in
      let q : counts_in s k ≡ counts_of (log_in s) = sym (counts_in_lem s k) ∙ ap (λ (j : ℕ). counts_of (blocks_in s j)) g in
      stored (holds_log s && within names counts a (count_in s)) names counts a (log_in s) _ _ (tested ∙ t)
      (filed name_width head_length names ns h.in_names m ∙ ap (put names a) p)
      (filed count_width (head_length + name_width * k) counts cs h.in_counts n ∙ ap (put counts a) q)

-- ---- copying

module _ (names counts : List ℕ) (a b k : ℕ) (v w : Bool) (e : v ≡ leb (a + k) b) (f : w ≡ within names counts b k) where
  allowed : (leb (a + k) b && within names counts b k) ≡ (v && w)
  allowed = rw (← e, ← f)

  pub copy_outside : (v && w) ≡ false → Stores (copy_of names counts a b k) false names counts
  copy_outside t = stored_not (leb (a + k) b && within names counts b k) names counts b (log_at names counts a k) (allowed ∙ t)

  pub copy_done : (ns cs : List ℕ) → (v && w) ≡ true → ns ≡ paste names b (drop a names) (a + k - a)
      → cs ≡ paste counts b (drop a counts) (a + k - a)
      → Stores (copy_of names counts a b k) true ns cs
  copy_done ns cs t m n =
      let p = (and-eq-true_iff v w).0 t in
      let room = within_of names counts b k (sym f ∙ p.1) in
      let q = leb-true (a + k) b (sym e ∙ p.0) in
      let x = room.in_names in
      let y = room.in_counts in
      stored (leb (a + k) b && within names counts b k) names counts b (log_at names counts a k) ns cs (allowed ∙ t)
      (m ∙ slice_copied names a b k (omega arith) x ∙ ap (put names b) (sym (names_at names counts a k)))
      (n ∙ slice_copied counts a b k (omega arith) y ∙ ap (put counts b) (sym (counts_at names counts a k)))
