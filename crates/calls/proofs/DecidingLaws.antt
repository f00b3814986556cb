-- Deciding and the snapshots, case by case: what was found, and so what is left. Assumes nothing.
use Prim.Native.Nat.{ℕ, ◌+◌, ◌≤◌, ◌<◌}
use native.Mathlib.Omega.{arith}
use mathlib.Core.Bool.{Bool, true, false, ◌&&◌}
use mathlib.Core.List.{List}
use mathlib.Core.Option.{some}
use mathlib.Core.Path.{◌≡◌, refl, sym, ap, ◌∙◌}
use Rattle.std.specs.Prelude.{Some, None}
use Rattle.std.specs.Prelude as std
use borrow.Author.Tests.{le-leb}
use lib.Dec.{leb}
use lib.ListN.{length}
use Rattle.message.specs.Choice.{pick}
use Rattle.message.specs.Logs.{Log, is_prefix, counts_of}
use Rattle.message.proofs.PartLaws.{length-put}
use Rattle.message.specs.Store.{log_at, within, prefix_at, Stores, copy_of}
use Rattle.message.proofs.ListedLaws.{length_at_lem}
use Rattle.message.proofs.Inside.{prefix_inside, stored_inside}
use Rattle.agreement.specs.Record.{Agreement, agreement_from, one, two, snapped, with_snapshot}
use Rattle.agreement.specs.declared.Marks.{Marks}
use Rattle.bench.specs.Layout.{is_even, decided_place}
use Rattle.bench.specs.Calendar.{last_view, deciding}
use Rattle.bench.specs.Record.{Bench, bench_with, of_view, agreement_of, with_agreement}
use Rattle.bench.specs.ByRecord.{used_of, snapped_by}
use Rattle.bench.specs.Answers.{core_with}
use Rattle.bench.specs.declared.Head.{Head}
use Rattle.bench.specs.declared.Rows.{Rows}
use Rattle.bench.proofs.ActLaws.{settled_none, settled_extends, settled_stays, settled_parts, snapped_late, snapped_view}
use Rattle.bench.proofs.TestedLaws.{before_within, decided_within, lists_roomy}
use Rattle.calls.specs.Steps.{found_log, Finds, Settling, Settles, Decides, Snaps}
use Rattle.calls.specs.declared.seeing.Listed.{Listed}
use Rattle.calls.specs.TotalSteps.{decided_counts}
use Rattle.calls.proofs.TotalWalks.{extended_none, kept_counts}
use Rattle.calls.proofs.FilingCases.{even_head, odd_head, even_rows, odd_rows, read_even, read_odd, keep_even, keep_odd}

-- ---- the head after a decision

abbrev decided_head : Head → ℕ → Head
decided_head h k = record {
  next = h.next;
  n = h.n;
  own = h.own;
  decided = k;
  parted = h.parted;
  gathering = h.gathering;
  even = h.even;
  odd =
      h.odd;
  shown = h.shown;
}

abbrev parted_head : Head → Head
parted_head h = record {
  next = h.next;
  n = h.n;
  own = h.own;
  decided = h.decided;
  parted = 1;
  gathering = h.gathering;
  even = h.even;
  odd =
      h.odd;
  shown = h.shown;
}

-- ---- a log of k blocks at place a is decided

module _ (h : Head) (names counts : List ℕ) (a k : ℕ) (u : Settling h names counts a k) where
  -- the decided log and what is decided lie within the lists
  old_within : within names counts decided_place h.decided ≡ true
  old_within = decided_within names counts u.decidable.lists h.decided u.decidable.short

  new_within : within names counts a k ≡ true
  new_within = before_within names counts u.decidable.lists a k u.before

  abbrev newLog : Log
  newLog = log_at names counts a k

  abbrev oldLog : Log
  oldLog = log_at names counts decided_place h.decided

  module _ (r : Bool) (e : r ≡ prefix_at names counts decided_place h.decided a k) where
    extends_is : r ≡ is_prefix oldLog newLog
    extends_is = e ∙ prefix_inside names counts decided_place h.decided a k old_within new_within

    -- it extends the decided log, and replaces it
    pub settle_extends : r ≡ true → (done : Bool) (ns cs : List ℕ) → Stores (copy_of names counts a decided_place k) done ns cs
        → Settles h names counts (some newLog) (decided_head h k) ns cs
    settle_extends t done ns cs s =
        let ok : (leb (a + k) decided_place && within names counts decided_place k) ≡ true =
        rw (le-leb (a + k) decided_place u.before.0, decided_within names counts u.decidable.lists k u.before.1) in
        let w = stored_inside
        (leb (a + k) decided_place && within names counts decided_place k) names counts decided_place newLog done ns cs ok s in
        let room = (lists_roomy names counts u.decidable.lists).1 in
        let few = u.before.1 in
        record {
          short = few;
          size = ap length w.1.1 ∙ length-put counts decided_place (counts_of newLog);
          kept = ap (λ (l : List ℕ). decided_counts l h.decided) w.1.1
              ∙ kept_counts names counts a k h.decided (sym extends_is ∙ t) (omega arith);
          whole = λ rows.
              rw (settled_extends (core_with (bench_with h rows) names counts) newLog (sym extends_is ∙ t))
              (record { bench = rw (length_at_lem names counts a k); name_list = w.1.0; count_list = w.1.1 });
        }

    module _ (f : r ≡ false) (c : Bool) (g : c ≡ prefix_at names counts a k decided_place h.decided) where
      covered_is : c ≡ is_prefix newLog oldLog
      covered_is = g ∙ prefix_inside names counts a k decided_place h.decided new_within old_within

      -- it is a prefix of it
      pub settle_stays : c ≡ true → Settles h names counts (some newLog) h names counts
      settle_stays t = record {
        short = u.decidable.short;
        size = refl;
        kept = refl;
        whole = λ rows.
            rw (settled_stays (core_with (bench_with h rows) names counts) newLog (sym extends_is ∙ f) (sym covered_is ∙ t))
            (record { bench = refl; name_list = refl; count_list = refl });
      }

      -- they conflict
      pub settle_parts : c ≡ false → Settles h names counts (some newLog) (parted_head h) names counts
      settle_parts t = record {
        short = u.decidable.short;
        size = refl;
        kept = refl;
        whole = λ rows.
            rw (settled_parts (core_with (bench_with h rows) names counts) newLog (sym extends_is ∙ f) (sym covered_is ∙ t))
            (record { bench = refl; name_list = refl; count_list = refl });
      }

-- ---- the decision, where the grade gives one

module _ (h : Head) (rows : Rows) (names counts : List ℕ) (v : ℕ) (r : std.Option Listed)
    (f : Finds (used_of (core_with (bench_with h rows) names counts) v deciding) names counts r) where
  pub decide_none : (totals : List ℕ) → r ≡ None → Decides h rows names counts totals v h names counts totals
  decide_none totals t = record {
    total_list = extended_none counts totals h.decided h.decided (omega arith);
    core = rw (sym f.log ∙ ap (found_log names counts) t, settled_none) (record { bench = refl; name_list = refl; count_list = refl });
  }

-- ---- snapshots

module _ (h : Head) (rows : Rows) (v : ℕ) (second : Bool) where
  abbrev b : Bench
  b = bench_with h rows

  -- past the last view none is taken
  pub snap_past : last_view < v → Snaps h rows v second h rows
  snap_past l = record { whole = λ names counts. sym (snapped_late _ v (core_with b names counts) l) }

  taken : (m m' : Marks) (ls : List ℕ) (c : Bench) → v ≤ last_view → agreement_from m ls ≡ agreement_of b v
      → m' ≡ snapped (pick second two one) m
      → ((g : Agreement) → agreement_from m' ls ≡ g → c ≡ with_agreement b v g)
      → (names counts : List ℕ) → core_with c names counts ≡ snapped_by (pick second two one) v (core_with b names counts)
  taken m m' ls c l g s kept names counts =
      ap (λ (x : Bench). core_with x names counts)
      (kept (with_snapshot (pick second two one) (agreement_of b v))
      ((λ i. agreement_from (s i) ls) ∙ ap (with_snapshot (pick second two one)) g))
      ∙ sym (snapped_view (pick second two one) v (core_with b names counts) l)

  module _ (x : Bool) (y : x ≡ is_even v) (m m' : Marks) (ls : List ℕ) (l : v ≤ last_view) (s : m' ≡ snapped (pick second two one) m) where
    pub snap_even : x ≡ true → agreement_from m ls ≡ of_view (agreement_from h.even rows.even) v
        → Snaps h rows v second (even_head h m') (even_rows rows ls)
    snap_even t g = record {
      whole = taken m m' ls (bench_with (even_head h m') (even_rows rows ls)) l (g ∙ read_even x v y b t) s
          (keep_even x v y b t (agreement_from m' ls));
    }

    pub snap_odd : x ≡ false → agreement_from m ls ≡ of_view (agreement_from h.odd rows.odd) v
        → Snaps h rows v second (odd_head h m') (odd_rows rows ls)
    snap_odd t g = record {
      whole = taken m m' ls (bench_with (odd_head h m') (odd_rows rows ls)) l (g ∙ read_odd x v y b t) s
          (keep_odd x v y b t (agreement_from m' ls));
    }
