-- What the tests of a call leave where none of them refuses, as facts: of the record, of the lists and of the outgoing buffer. Assumes
-- nothing.
use Prim.Native.Nat.{ℕ, ◌+◌, ◌≤◌}
use native.Mathlib.Omega.{arith}
use mathlib.Core.Bool.{true, false}
use mathlib.Core.List.{List}
use mathlib.Core.Path.{◌≡◌}
use borrow.Author.Tests.{ltb-false}
use lib.Dec.{ltb}
use lib.ListN.{length}
use Rattle.message.specs.Limits.{most_blocks}
use Rattle.message.specs.Store.{within}
use Rattle.message.proofs.TestLaws.{or_false}
use Rattle.message.proofs.ListedLaws.{Within, of_within}
use Rattle.bench.specs.Layout.{decided_place, least_lent, most_bytes, Lent, too_few_places, too_few_totals, short_lists, out_of_range}
use Rattle.bench.specs.Calendar.{last_beat}
use Rattle.bench.specs.Calls.{Core}
use Rattle.bench.specs.Record.{with_gathering_over, beyond_agreement, beyond_proposals, beyond, Bench}
use Rattle.bench.specs.Answers.{core_with}
use Rattle.bench.specs.Tested.{Usable, Tested, Before}

-- ---- the record

-- of its limits, the two that an act counts on
pub within_limits : (b : Bench) → beyond b ≡ false → (b.decided ≤ most_blocks) × (beyond_proposals b.n b.proposals ≡ false)
unfolding beyond
within_limits b e =
    let c = (or_false (out_of_range b.n b.own) _ e).1 in
    let d = (or_false (ltb (last_beat + 1) b.next) _ c).1 in
    let f = or_false (ltb most_blocks b.decided) _ d in
    let g = (or_false (beyond_agreement b.n b.even) _ f.1).1 in
    (ltb-false most_blocks b.decided f.0, (or_false (beyond_agreement b.n b.odd) _ g).1)

-- ---- the lists

module _ (names counts : List ℕ) (e : too_few_places names counts ≡ false) where
  pub lists_roomy : (least_lent ≤ length names) × (least_lent ≤ length counts)
  lists_roomy =
      let r = or_false (ltb (length names) least_lent) (ltb (length counts) least_lent) e in
      (ltb-false (length names) least_lent r.0, ltb-false (length counts) least_lent r.1)

  lies_within : (a k : ℕ) → k ≤ most_blocks → a + k ≤ least_lent → within names counts a k ≡ true
  lies_within a k h g =
      let (n, c) = lists_roomy in
      let w : Within names counts a k = record { few = h; in_names = omega arith; in_counts = omega arith } in
      of_within w

  -- a log before the decided log's place, and one at it
  pub before_within : (a k : ℕ) → Before a k → within names counts a k ≡ true
  before_within a k (ends, few) = lies_within a k few (omega arith)

  pub decided_within : (k : ℕ) → k ≤ most_blocks → within names counts decided_place k ≡ true
  decided_within k h = lies_within decided_place k h (omega arith)

-- of all three lists, those of the blocks, and the totals
pub long_blocks : (l : Lent) → short_lists l ≡ false → too_few_places l.names l.counts ≡ false
long_blocks l e = (or_false (too_few_places l.names l.counts) (too_few_totals l.totals) e).0

pub long_totals : (l : Lent) → short_lists l ≡ false → most_blocks ≤ length l.totals
long_totals l e =
    ltb-false (length l.totals) most_blocks (or_false (too_few_places l.names l.counts) (too_few_totals l.totals) e).1

-- ---- all that was tested, as the code finds it

pub long_out : {s : Core} {out : List ℕ} → Tested s out → most_bytes ≤ length out
long_out {s} {out} t = ltb-false (length out) most_bytes t.room

-- ending the gathering does not matter to it
module _ (b : Bench) (names counts out : List ℕ) (t : Tested (core_with b names counts) out) where
  usable_over : Usable (core_with (with_gathering_over b) names counts)
  unfolding beyond
  usable_over = record { limits = t.usable.limits; lists = t.usable.lists }

  pub tested_over : Tested (core_with (with_gathering_over b) names counts) out
  tested_over = record { usable = usable_over; room = t.room }
