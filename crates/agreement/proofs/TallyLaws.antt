-- How many support a log: what it says of the grade, and how the code counts them. Assumes nothing.
use Prim.Native.Nat.{ℕ, ◌*◌, ◌≤◌, ◌<◌}
use mathlib.Core.Bool.{Bool, true, false, ◌&&◌, ◌||◌}
use mathlib.Core.List.{List}
use mathlib.Core.Logic.Iff
use mathlib.Core.Logic.{◌↔◌}
use mathlib.Core.Path.{◌≡◌, ap, ◌∙◌}
use borrow.Author.Tests.{leb-false, ltb-false, lt-leb, le-ltb}
use lib.Dec.{leb, ltb}
use lib.ListN.{get_or}
use Rattle.message.specs.Limits.{most_blocks}
use Rattle.message.specs.Logs.{Log}
use Rattle.message.specs.Store.{log_at, prefix_at}
use Rattle.message.proofs.TestLaws.{or_false}
use Rattle.message.proofs.Inside.{prefix_inside}
use Rattle.agreement.specs.Limits.{most_senders, place_of}
use Rattle.agreement.specs.Sets.{ones, count, member}
use Rattle.agreement.specs.Reading.{Reading, may_support, supports, Grade}
use Rattle.agreement.specs.Record.{Agreement, agreement_from, is_voter, is_sender, lacks_room, overlong, reading_of}
use Rattle.agreement.specs.Tally.{supporters_of, supporters_at}
use Rattle.agreement.specs.Steps.{Readable, Lent, backs}
use Rattle.agreement.proofs.SetLaws.{weigh_cong}
use Rattle.agreement.proofs.FilingLaws.{within_room}
use Rattle.agreement.proofs.FindLaws.{readable_where}

module _ (names counts : List ℕ) (base : ℕ) (g : Agreement) (among : ℕ) where
  abbrev R : Reading
  R = reading_of names counts base g among

  -- With room in the lists and no length over 64, a log has the grade exactly where more than half of S support it.
  pub tally_iff : (L : Log) → (lacks_room names counts base || overlong g.lengths) ≡ false
      → Grade most_senders ones R L ↔ (count most_senders (is_sender g) < 2 * supporters_of names counts base g among L)
  unfolding Grade supporters_of
  tally_iff L h = rw h Iff.rfl

  -- where there is such a log
  pub supporters_placed : (i k : ℕ) → i < most_senders → k ≤ most_blocks
      → supporters_at names counts base g among i k ≡ supporters_of names counts base g among (log_at names counts (place_of base i) k)
  unfolding supporters_at
  supporters_placed i k h l = rw (lt-leb most_senders i h, le-ltb most_blocks k l)

  -- ---- the code's test of one sender, from what it found

  pub backs_is : (a k j y x : ℕ) (r v m : Bool) → x ≡ place_of base j → y ≡ get_or g.lengths j 0 → r ≡ prefix_at names counts a k x y
      → v ≡ is_voter g j → m ≡ member among j → ((v && m) && r) ≡ backs names counts base g among a k j
  unfolding backs
  backs_is a k j y x r v m d s e p q = rw (e, d, s, p, q)

  -- ---- what it counts

  pub tally_nowhere : (i k : ℕ) → (leb most_senders i || ltb most_blocks k) ≡ true → 0 ≡ supporters_at names counts base g among i k
  unfolding supporters_at
  tally_nowhere i k e = rw e

  pub tally_placed : (i k : ℕ) → (leb most_senders i || ltb most_blocks k) ≡ false → i < most_senders
  tally_placed i k e = leb-false most_senders i (or_false (leb most_senders i) (ltb most_blocks k) e).0

  module _ (i k : ℕ) (placed : (leb most_senders i || ltb most_blocks k) ≡ false) where
    pub tally_barred : (lacks_room names counts base || overlong g.lengths) ≡ true → 0 ≡ supporters_at names counts base g among i k
    unfolding supporters_at supporters_of
    tally_barred t = rw (placed, t)

    abbrev L : Log
    L = log_at names counts (place_of base i) k

    supports_same : Readable names counts base g.lengths → (j : ℕ) → j < most_senders
        → backs names counts base g among (place_of base i) k j ≡ supports R L j
    unfolding backs supports may_support
    supports_same ok j h =
        let p = or_false (leb most_senders i) (ltb most_blocks k) placed in
        ap (λ (t : Bool). (is_voter g j && member among j) && t)
        (prefix_inside names counts (place_of base i) k (place_of base j) (get_or g.lengths j 0)
        (within_room names counts base i k ok.in_names ok.in_counts (leb-false most_senders i p.0) (ltb-false most_blocks k p.1))
        (within_room names counts base j (get_or g.lengths j 0) ok.in_names ok.in_counts h (ok.short j h)))

    pub tally_counted : (p n : ℕ) (ns cs ls : List ℕ) (b : ℕ) → Lent names counts base g.lengths ns cs b ls → p ≡ place_of base i
        → n ≡ count most_senders (backs ns cs b (agreement_from g.marks ls) among p k)
        → n ≡ supporters_at names counts base g among i k
    unfolding supporters_at supporters_of
    tally_counted p n ns cs ls b t q d =
        let c = rw (t.1, t.2, t.3, t.4, q) at d in
        rw (placed, t.0)
        (c ∙ weigh_cong most_senders ones (backs names counts base g among (place_of base i) k) (supports R L)
        (supports_same (readable_where names counts base g.lengths t.0)))
