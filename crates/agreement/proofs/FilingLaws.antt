-- Filing, whatever the message: what the test "nothing can be filed" leaves where it fails, and the log in the bytes against the one filed.
-- Assumes nothing.
use Prim.Native.Nat.{ℕ, ◌+◌, ◌*◌, ◌<◌, ◌≤◌}
use native.Mathlib.Omega.{arith}
use mathlib.Core.List.{List}
use mathlib.Core.Bool.{Bool, true, false, not, ◌&&◌, ◌||◌, and-eq-true_iff}
use mathlib.Core.Path.{◌≡◌, sym, ap, ◌∙◌}
use borrow.Author.Tests.{leb-true, leb-false, lt-leb, ltb-false, le-ltb, not-false}
use lib.Dec.{leb, ltb}
use lib.ListN.{length}
use Rattle.message.specs.Limits.{most_blocks, head_length, block_width}
use Rattle.message.specs.Logs.{Log, same_log, names_of, counts_of}
use Rattle.message.specs.Numbers.{put}
use Rattle.message.specs.Message.{count_in, log_in}
use Rattle.message.specs.Store.{log_at, within, holds_log, matches_at, Stores, file_of}
use Rattle.message.proofs.TestLaws.{either, or_false}
use Rattle.message.proofs.LogLaws.{same_log_iff}
use Rattle.message.proofs.ListedLaws.{Within, length_at_lem, of_within}
use Rattle.message.proofs.Acceptance.{length_blocks}
use Rattle.message.proofs.Inside.{matches_inside, matches_outside, stored_inside}
use Rattle.agreement.specs.Limits.{most_senders, span, place_of}
use Rattle.agreement.specs.Record.{lacks_room}
use Rattle.agreement.specs.Filing.{unfit, Fit}

-- with room from `base` on, a log of at most 64 blocks at a sender's place is within the lists
pub within_room : (names counts : List ℕ) (base i k : ℕ) → base + span ≤ length names → base + span ≤ length counts → i < most_senders
    → k ≤ most_blocks
    → within names counts (place_of base i) k ≡ true
within_room names counts base i k n m a h =
    let w : Within names counts (place_of base i) k = record { few = h; in_names = omega arith; in_counts = omega arith } in of_within w

-- ---- what is fit

module _ (names counts : List ℕ) (base : ℕ) (s : List ℕ) (i : ℕ) where
  pub fit : unfit names counts base s i ≡ false → Fit names counts base s i
  fit e =
      let a = or_false (leb most_senders i) (lacks_room names counts base || not (holds_log s)) e in
      let b = or_false (lacks_room names counts base) (not (holds_log s)) a.1 in
      let c = or_false (ltb (length names) (base + span)) (ltb (length counts) (base + span)) b.0 in
      record {
        few = leb-false most_senders i a.0;
        in_names = ltb-false (length names) (base + span) c.0;
        in_counts = ltb-false (length counts) (base + span) c.1;
        holds = not-false (holds_log s) b.1;
      }

  pub fit_by : (r : Bool) → r ≡ unfit names counts base s i → r ≡ false → Fit names counts base s i
  fit_by r e t = fit (sym e ∙ t)

  module _ (f : Fit names counts base s i) where
    pub fit_not_unfit : unfit names counts base s i ≡ false
    fit_not_unfit =
        rw (
          lt-leb most_senders i f.few,
          le-ltb (length names) (base + span) f.in_names,
          le-ltb (length counts) (base + span) f.in_counts,
          f.holds,
        )

    pub few_blocks : count_in s ≤ most_blocks
    few_blocks =
        leb-true (count_in s) most_blocks
        ((and-eq-true_iff (leb (count_in s) most_blocks) (leb (head_length + block_width * count_in s) (length s))).0 f.holds).0

    pub some_bytes : 0 < length s
    some_bytes =
        let q = ((and-eq-true_iff (leb (count_in s) most_blocks) (leb (head_length + block_width * count_in s) (length s))).0 f.holds).1 in
        let h = leb-true (head_length + block_width * count_in s) (length s) q in
        omega arith

    within_filed : (k : ℕ) → k ≤ most_blocks → within names counts (place_of base i) k ≡ true
    within_filed k h = within_room names counts base i k f.in_names f.in_counts f.few h

    -- a log longer than any in the bytes is not the same
    unlike : (a k : ℕ) → most_blocks < k → same_log (log_in s) (log_at names counts a k) ≡ false
    unlike a k h =
        either (same_log (log_in s) (log_at names counts a k))
        (λ q.
        let same = ap (λ (L : Log). length L) ((same_log_iff (log_in s) (log_at names counts a k)).0 q) in
        let m = length_blocks s (count_in s) in
        let n = length_at_lem names counts a k in
        let c = few_blocks in
        absurd (omega arith))
        (λ q. q)

    matches_long : (a k : ℕ) → most_blocks < k → matches_at s names counts a k ≡ false
    matches_long a k h = matches_outside s names counts a k (rw (lt-leb k most_blocks h))

    -- the test of the lists is the test of the logs, whatever length is stored
    matches_filed : (k : ℕ) → matches_at s names counts (place_of base i) k ≡ same_log (log_in s) (log_at names counts (place_of base i) k)
    matches_filed k =
        let a = place_of base i in
        either (leb k most_blocks)
        (λ q. matches_inside s names counts a k f.holds (within_filed k (leb-true k most_blocks q)))
        (λ q. matches_long a k (leb-false k most_blocks q) ∙ sym (unlike a k (leb-false k most_blocks q)))

    pub is_filed : (k p : ℕ) (r : Bool) → p ≡ place_of base i → r ≡ matches_at s names counts p k
        → r ≡ same_log (log_in s) (log_at names counts (place_of base i) k)
    is_filed k p r q e = e ∙ ap (λ (a : ℕ). matches_at s names counts a k) q ∙ matches_filed k

    -- the log in the bytes is stored at the sender's place
    module _ (p : ℕ) (r : Bool) (ns cs : List ℕ) (e : p ≡ place_of base i) (done : Stores (file_of names counts p s) r ns cs) where
      t : Stores (file_of names counts (place_of base i) s) r ns cs
      t = rw e at done

      pub stored_filed : (ns ≡ put names (place_of base i) (names_of (log_in s))) × (cs ≡ put counts (place_of base i) (counts_of (log_in s)))
      stored_filed =
          let ok : (holds_log s && within names counts (place_of base i) (count_in s)) ≡ true =
          rw (f.holds, within_filed (count_in s) few_blocks) in
          (stored_inside (holds_log s && within names counts (place_of base i) (count_in s)) names counts (place_of base i)
          (log_in s) r ns cs ok t).1
