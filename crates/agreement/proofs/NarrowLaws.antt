-- One block more, or a run of them: which logs start so, and the set of the followers whose log does. Assumes nothing.
use Prim.Native.Nat.{ℕ, zero, suc, ◌+◌, ◌≤◌}
use native.Mathlib.Omega.{arith}
use mathlib.Core.Bool.{Bool, true, false, ◌&&◌, false≢true}
use mathlib.Core.List.{List}
use mathlib.Core.Path.{◌≡◌, refl, sym, ap, ◌∙◌}
use borrow.Author.Tests.{ltb-true, ltb-false, leb-true, le-leb, lt-leb}
use lib.Dec.{ltb, leb}
use Rattle.message.specs.Limits.{most_blocks}
use Rattle.message.specs.Logs.{same_block, is_prefix}
use Rattle.message.specs.Store.{block_at, log_at}
use Rattle.message.proofs.TestLaws.{either}
use Rattle.message.proofs.LogLaws.{prefix_length, is_prefix_iff}
use Rattle.message.proofs.ListedLaws.{length_at_lem, prefix_one_more}
use Rattle.agreement.specs.Limits.{most_senders}
use Rattle.agreement.specs.Sets.{weigh, member}
use Rattle.agreement.specs.Steps.{SetOf, chunk_length, alike, narrowed_by, Far}

-- to have more than l is to have l + 1
over : (l m y : ℕ) → m ≡ l + 1 → ltb l y ≡ leb m y
over l m y e =
    either (ltb l y) (λ t. t ∙ sym (le-leb m y (let x = ltb-true l y t in omega arith)))
    (λ t. t ∙ sym (lt-leb m y (let x = ltb-false l y t in omega arith)))

module _ (names counts : List ℕ) where
  -- the blocks at places a and b are the same
  abbrev same : ℕ → ℕ → Bool
  same a b = same_block (block_at names counts a) (block_at names counts b)

  -- ---- a chunk of blocks

  pub alike_none : (a b : ℕ) → true ≡ alike names counts a b 0
  unfolding alike
  alike_none a b = refl

  pub alike_next : (a b i : ℕ) (r x : Bool) → r ≡ alike names counts a b i → x ≡ same (a + i) (b + i)
      → (r && x) ≡ alike names counts a b (i + 1)
  unfolding alike
  alike_next a b i r x e f = let s : suc i ≡ i + 1 = omega arith in (λ k. e k && f k) ∙ ap (alike names counts a b) s

  -- a log that is a prefix is not longer
  short : (a b l y : ℕ)
      → is_prefix (log_at names counts a l)
      (log_at names counts b y) ≡ (is_prefix (log_at names counts a l) (log_at names counts b y) && (leb l y && true))
  short a b l y =
      either (is_prefix (log_at names counts a l) (log_at names counts b y))
      (λ t.
      let p = prefix_length ((is_prefix_iff (log_at names counts a l) (log_at names counts b y)).0 t) in
      let q = length_at_lem names counts a l in
      let r = length_at_lem names counts b y in
      let s = le-leb l y (omega arith) in
      rw (t, s))
      (λ t. rw t)

  join : (p u v w s : Bool) → (v ≡ true → u ≡ true) → ((p && (u && w)) && (v && s)) ≡ (p && (v && (w && s)))
  join false u v w s h = refl
  join true true true w s h = refl
  join true false true w s h = absurd (false≢true (h refl))
  join true true false true s h = refl
  join true true false false s h = refl
  join true false false w s h = refl

  -- l + k blocks are a prefix of a log where l blocks are, the log has so many, and the next k are the same
  pub prefix_chunk : (a b l y k : ℕ) → is_prefix (log_at names counts a (l + k)) (log_at names counts b y)
      ≡ (is_prefix (log_at names counts a l) (log_at names counts b y) && (leb (l + k) y && alike names counts (a + l) (b + l) k))
  unfolding alike
  prefix_chunk a b l y zero =
      let s : l ≡ l + 0 = omega arith in
      ap (λ (n : ℕ). is_prefix (log_at names counts a n) (log_at names counts b y)) (sym s) ∙ short a b l y
      ∙ ap (λ (n : ℕ). is_prefix (log_at names counts a l) (log_at names counts b y) && (leb n y && true)) s
  prefix_chunk a b l y (suc k) =
      let s : l + suc k ≡ l + k + 1 = omega arith in
      let p : a + (l + k) ≡ a + l + k = omega arith in
      let q : b + (l + k) ≡ b + l + k = omega arith in
      let z = is_prefix (log_at names counts a l) (log_at names counts b y) in
      let t = over (l + k) (l + suc k) y (omega arith) in
      ap (λ (n : ℕ). is_prefix (log_at names counts a n) (log_at names counts b y)) s
      ∙ prefix_one_more names counts a b (l + k) y
      ∙ ap (λ (u : Bool). u && (ltb (l + k) y && same (a + (l + k)) (b + (l + k)))) (prefix_chunk a b l y k)
      ∙ (λ i. (z && (leb (l + k) y && alike names counts (a + l) (b + l) k)) && (t i && same (p i) (q i)))
      ∙ join z (leb (l + k) y) (leb (l + suc k) y) (alike names counts (a + l) (b + l) k) (same (a + l + k) (b + l + k))
      (λ h. le-leb (l + k) y (let x = leb-true (l + suc k) y h in omega arith))

  pub far_chunk : (base : ℕ) (lengths : List ℕ) (followers l c far : ℕ) → l + chunk_length ≤ most_blocks
      → SetOf (narrowed_by names counts base lengths followers l c chunk_length) most_senders far
      → Far names counts base lengths followers l c far
  far_chunk base lengths followers l c far n s = record { some = λ h. (n, s) }

  pub far_none : (base : ℕ) (lengths : List ℕ) (followers l c : ℕ) → Far names counts base lengths followers l c 0
  unfolding weigh member
  far_none base lengths followers l c = record { some = λ h. absurd (omega arith) }
