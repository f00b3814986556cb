-- Laws of a log in the two lent lists: its length, names and counts, its first block, and what storing a log leaves. Assumes nothing.
use Prim.Native.Nat.{ℕ, zero, suc, ◌+◌, ◌-◌, ◌≤◌, ◌<◌}
use native.Mathlib.Omega.{arith}
use mathlib.Core.List.{List, [], ◌∷◌}
use mathlib.Core.Path.{◌≡◌, refl, sym, ap, ◌∙◌}
use mathlib.Core.Bool.{Bool, true, ◌&&◌, and-true, and_assoc, and-eq-true_iff}
use borrow.Author.Tests.{leb-true, le-leb, ltb-true, ltb-false, lt-ltb, le-ltb}
use lib.Dec.{leb, ltb}
use lib.ListN.{length}
use Rattle.message.specs.Limits.{most_blocks}
use Rattle.message.specs.Numbers.{part, put}
use Rattle.message.specs.Logs.{Log, Prefix, empty, more, same_block, is_prefix, in_step, names_of, counts_of}
use Rattle.message.specs.Store.{block_at, log_at, within}
use Rattle.message.proofs.TestLaws.{either}
use Rattle.message.proofs.LogLaws.{prefix_length, prefix_same, length_names, length_counts, log_in_step, names_in_step}
use Rattle.message.proofs.LogLaws.{counts_in_step, length_in_step}
use Rattle.message.proofs.PartLaws.{length_part, part-put, part-put_below, part-put_above}

same_lengths : (names counts : List ℕ) (a k : ℕ) → length (part names a k) ≡ length (part counts a k)
same_lengths names counts a k = length_part names a k ∙ sym (length_part counts a k)

pub length_at_lem : (names counts : List ℕ) (a k : ℕ) → length (log_at names counts a k) ≡ k
unfolding log_at
length_at_lem names counts a k = length_in_step (part names a k) (part counts a k) (same_lengths names counts a k) ∙ length_part names a k

pub names_at : (names counts : List ℕ) (a k : ℕ) → names_of (log_at names counts a k) ≡ part names a k
unfolding log_at
names_at names counts a k = names_in_step (part names a k) (part counts a k) (same_lengths names counts a k)

pub counts_at : (names counts : List ℕ) (a k : ℕ) → counts_of (log_at names counts a k) ≡ part counts a k
unfolding log_at
counts_at names counts a k = counts_in_step (part names a k) (part counts a k) (same_lengths names counts a k)

-- ---- a log's first block

pub log_step : (names counts : List ℕ) (a k : ℕ) → 0 < k
    → log_at names counts a k ≡ block_at names counts a ∷ log_at names counts (a + 1) (k - 1)
unfolding log_at part in_step
log_step names counts a k h = let e : k ≡ suc (k - 1) = omega arith in ap (log_at names counts a) e

pub log_empty : (names counts : List ℕ) (a k : ℕ) → k ≤ 0 → log_at names counts a k ≡ []
unfolding log_at part in_step
log_empty names counts a k h = let e : k ≡ 0 = omega arith in ap (log_at names counts a) e

-- ---- a log's first blocks

-- the first x blocks of a log of y are a prefix of it
pub prefix_at_lem : (names counts : List ℕ) (a x y : ℕ) → x ≤ y → Prefix (log_at names counts a x) (log_at names counts a y)
unfolding log_at part in_step
prefix_at_lem names counts a zero y h = empty
prefix_at_lem names counts a (suc x) zero h = absurd (omega arith)
prefix_at_lem names counts a (suc x) (suc y) h = more (prefix_at_lem names counts (a + 1) x y (omega arith))

-- a prefix of a log in the lists is its first blocks
pub prefix_there : (names counts : List ℕ) (a y : ℕ) (M : Log) → Prefix M (log_at names counts a y) → M ≡ log_at names counts a (length M)
prefix_there names counts a y M h =
    let l = prefix_length h in
    let k = length_at_lem names counts a y in
    prefix_same h (prefix_at_lem names counts a (length M) y (omega arith)) (sym (length_at_lem names counts a (length M)))

-- ---- one block more

ltb_suc : (l y : ℕ) → ltb l y ≡ ltb (suc l) (suc y)
ltb_suc l y =
    either (ltb l y)
    (λ t. t ∙ sym (lt-ltb (suc l) (suc y) (omega (arith, ltb-true l y t))))
    (λ t. t ∙ sym (le-ltb (suc l) (suc y) (omega (arith, ltb-false l y t))))

module _ (names counts : List ℕ) where
  -- the blocks at places a and b are the same
  abbrev same : ℕ → ℕ → Bool
  same a b = same_block (block_at names counts a) (block_at names counts b)

  longer : (a b l y : ℕ) → is_prefix (log_at names counts a (suc l)) (log_at names counts b y)
      ≡ (is_prefix (log_at names counts a l) (log_at names counts b y) && (ltb l y && same (a + l) (b + l)))
  unfolding is_prefix log_at part in_step
  longer a b zero zero = sym (ap (λ (t : Bool). t && same (a + 0) (b + 0)) (le-ltb 0 0 (omega arith)))
  longer a b zero (suc y) =
      let p : a ≡ a + 0 = omega arith in
      let q : b ≡ b + 0 = omega arith in
      let t = sym (lt-ltb 0 (suc y) (omega arith)) in
      and-true (same a b) ∙ (λ i. t i && same (p i) (q i))
  longer a b (suc l) zero = refl
  longer a b (suc l) (suc y) =
      let p : a + 1 + l ≡ a + suc l = omega arith in
      let q : b + 1 + l ≡ b + suc l = omega arith in
      let t = ltb_suc l y in
      let s = is_prefix (log_at names counts (a + 1) l) (log_at names counts (b + 1) y) in
      ap (λ (u : Bool). same a b && u) (longer (a + 1) (b + 1) l y)
      ∙ sym (and_assoc (same a b) s (ltb l y && same (a + 1 + l) (b + 1 + l)))
      ∙ (λ i. (same a b && s) && (t i && same (p i) (q i)))

  -- l + 1 blocks are a prefix of a log where l blocks are, the log has more than l, and the next one is the same
  pub prefix_one_more : (a b l y : ℕ) → is_prefix (log_at names counts a (l + 1)) (log_at names counts b y)
      ≡ (is_prefix (log_at names counts a l) (log_at names counts b y) && (ltb l y && same (a + l) (b + l)))
  prefix_one_more a b l y =
      let s : l + 1 ≡ suc l = omega arith in
      ap (λ (k : ℕ). is_prefix (log_at names counts a k) (log_at names counts b y)) s ∙ longer a b l y

-- ---- within the lists, as facts

pub record Within (names counts : List ℕ) (a k : ℕ) : Type 0 where
  pub few : k ≤ most_blocks
  pub in_names : a + k ≤ length names
  pub in_counts : a + k ≤ length counts

pub within_of : (names counts : List ℕ) (a k : ℕ) → within names counts a k ≡ true → Within names counts a k
within_of names counts a k e =
    let p = (and-eq-true_iff (leb k most_blocks) (leb (a + k) (length names) && leb (a + k) (length counts))).0 e in
    let q = (and-eq-true_iff (leb (a + k) (length names)) (leb (a + k) (length counts))).0 p.1 in
    record {
      few = leb-true k most_blocks p.0;
      in_names = leb-true (a + k) (length names) q.0;
      in_counts =
          leb-true (a + k) (length counts) q.1;
    }

pub of_within : {names counts : List ℕ} {a k : ℕ} → Within names counts a k → within names counts a k ≡ true
of_within {names} {counts} {a} {k} w =
    rw (le-leb k most_blocks w.few, le-leb (a + k) (length names) w.in_names, le-leb (a + k) (length counts) w.in_counts)

-- ---- storing a log

-- what was stored is there
pub log_stored : (names counts : List ℕ) (a : ℕ) (L : Log) → a + length L ≤ length names → a + length L ≤ length counts
    → log_at (put names a (names_of L)) (put counts a (counts_of L)) a (length L) ≡ L
unfolding log_at
log_stored names counts a L h g =
    let n = length_names L in
    let c = length_counts L in
    let p = ap (part (put names a (names_of L)) a) (sym n) ∙ part-put names a (names_of L) (omega arith) in
    let q = ap (part (put counts a (counts_of L)) a) (sym c) ∙ part-put counts a (counts_of L) (omega arith) in
    (λ i. in_step (p i) (q i)) ∙ log_in_step L

-- logs before and past it are as they were
pub log_before : (names counts : List ℕ) (a : ℕ) (L : Log) (b k : ℕ) → b + k ≤ a
    → log_at (put names a (names_of L)) (put counts a (counts_of L)) b k ≡ log_at names counts b k
unfolding log_at
log_before names counts a L b k h =
    let p = part-put_below names a (names_of L) b k h in let q = part-put_below counts a (counts_of L) b k h in λ i. in_step (p i) (q i)

pub log_past : (names counts : List ℕ) (a : ℕ) (L : Log) (b k : ℕ) → a + length L ≤ b
    → log_at (put names a (names_of L)) (put counts a (counts_of L)) b k ≡ log_at names counts b k
unfolding log_at
log_past names counts a L b k h =
    let n = length_names L in
    let c = length_counts L in
    let p = part-put_above names a (names_of L) b k (omega arith) in
    let q = part-put_above counts a (counts_of L) b k (omega arith) in
    λ i. in_step (p i) (q i)
