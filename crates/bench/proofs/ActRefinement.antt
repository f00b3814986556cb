-- What an act changes besides filing what it makes: the decision, the snapshots, and the end of the gathering, in record and history alike.
-- Assumes nothing.
use Prim.Native.Nat.{ℕ, ◌+◌, ◌≤◌, ◌<◌}
use native.Mathlib.Omega.{arith}
use mathlib.Core.Bool.{Bool}
use mathlib.Core.List.Memᴰ
use mathlib.Core.List.{List}
use mathlib.Core.Logic.{inl, inr}
use mathlib.Core.Option.{Option, some}
use mathlib.Core.Path.{◌≡◌, refl, sym, ap, subst, ◌∙◌, fun_ext}
use borrow.Author.Tests.{eq-eqb, ne_eqb}
use Rattle.message.specs.Logs.{Log}
use Rattle.message.specs.Message.{Meaning}
use Rattle.agreement.specs.Limits.{span}
use Rattle.agreement.specs.Sets.{member}
use Rattle.agreement.specs.Record.{SnapshotNumber, one, two, snapshot_at, with_snapshot, Agreement}
use Rattle.agreement.specs.Kept.{kept_log, single_of, snapshot_in}
use Rattle.agreement.specs.Heard.{heard_logs}
use Rattle.agreement.specs.Proposals.{Proposals}
use Rattle.agreement.proofs.KeptLaws.{kept_voter, kept_snapshot}
use Rattle.agreement.proofs.ElsewhereLaws.{untouched}
use Rattle.bench.specs.Layout.{logs_place}
use Rattle.bench.specs.Calendar.{last_view, input_beat, snapshot_beat, close_beat}
use Rattle.bench.specs.History.{ActRecord, History, beat_now, heard_at, snapshot_of, snapshot_took, closed}
use Rattle.bench.specs.Record.{agreement_of, with_agreement, Bench}
use Rattle.bench.proofs.Valid.{Valid}
use Rattle.bench.proofs.ValidAgreements.{not_both}
use Rattle.bench.proofs.Slots.{agreement_view, agreement_valid, agreement_rest, changed_proposals}
use Rattle.bench.proofs.Refinement.{Holds, HoldsProposals, Since, Filled}
use Rattle.bench.proofs.Filling.{SameView, holds_same, agreement_views}

-- ---- an act is recorded

module _ (p : History) (made : Option Meaning) (decided : Option Log) (beat : ℕ) (now : beat_now p ≡ beat) where
  abbrev q : History
  q = closed p made decided

  -- at another beat than the act's, what was heard by then is what it was
  heard_before : (c : ℕ) → (beat ≡ c → ⊥) → heard_at q.actions c ≡ heard_at p.actions c
  unfolding heard_at
  heard_before c d = rw (ne_eqb (beat_now p) c (λ e. d (sym now ∙ e)))

  heard_now : heard_at q.actions beat ≡ some p.heard
  unfolding heard_at
  heard_now = rw (eq-eqb (beat_now p) beat now)

  -- no snapshot of view u is taken now
  abbrev pub NoneOf : ℕ → Type 0
  NoneOf u = (k : SnapshotNumber) → beat ≡ snapshot_beat k u → ⊥

  same_view : (u : ℕ) → NoneOf u → SameView p q u
  same_view u x = record { logs = λ i. refl; acts = λ k. heard_before (snapshot_beat k u) (x k) }

  module _ {b : Bench} {ns cs : List ℕ} (next : b.next ≡ beat + 1) (f : Valid b) (h : Filled b ns cs p) where
    since_then : Since b.next q
    since_then = record {
      logs = h.since.logs;
      proposals = h.since.proposals;
      acts = λ d i. elim (Memᴰ.cases_cons i) [
        | inl e ↦ let z = ap (λ (x : ActRecord). x.beat) e in omega arith
        | inr j ↦ h.since.acts d j
      ];
    }

    -- an act at a beat of no snapshot
    pub quiet_filled : ((u : ℕ) → u ≤ last_view → NoneOf u) → Filled b ns cs q
    quiet_filled none_then = record {
      views = λ u i o. holds_same (same_view u (none_then u i)) (h.views u i o);
      proposals = λ u i o. h.proposals u i o;
      since = since_then;
    }

    -- the snapshot of view v: V as it is now
    module _ (v : ℕ) (low : v ≤ last_view) (late : input_beat v < b.next) (soon : b.next ≤ close_beat v + 1) where
      voters_same : some (member (agreement_of b v).marks.voters) ≡ snapshot_of v (some p.heard)
      voters_same =
          let g = agreement_of b v in
          ap {B = Option (ℕ → Bool)} some
          (fun_ext (λ i.
          kept_voter ns cs (logs_place v) g i (not_both b.n g (agreement_valid b v low f) i)
          ∙ ap single_of ((h.views v low soon).logs i)))

      snapped_filled : (g : Agreement) → g.marks.view ≡ v → Holds ns cs g q v
          → ((u : ℕ) → (u ≡ v → ⊥) → NoneOf u) → Filled (with_agreement b v g) ns cs q
      snapped_filled g view here others =
          let e = agreement_rest b v g in
          let x = e.next in
          record {
            views = λ u i o.
                agreement_views f h v late soon (untouched (logs_place v) span ns cs) g view here
                (λ w d j. same_view w (others w d)) u i (omega arith);
            proposals = λ u i o.
                subst (λ (z : Proposals). HoldsProposals ns cs z q u) (sym (changed_proposals b v g u)) (h.proposals u i (omega arith));
            since = subst (λ (z : ℕ). Since z q) (sym x) since_then;
          }

      pub snapshot_filled : (k : SnapshotNumber) → beat ≡ snapshot_beat k v
          → Filled (with_agreement b v (with_snapshot k (agreement_of b v))) ns cs q
      snapshot_filled k e =
          let old = h.views v low soon in
          let taken : some (member (agreement_of b v).marks.voters) ≡ snapshot_took q k v =
          voters_same ∙ ap (snapshot_of v) (sym heard_now ∙ ap (heard_at q.actions) e) in
          let left : (j : SnapshotNumber) → (beat ≡ snapshot_beat j v → ⊥)
          → snapshot_in (snapshot_at j (agreement_of b v).marks) ≡ snapshot_took q j v =
          λ j d. old.snapshots j ∙ ap (snapshot_of v) (sym (heard_before (snapshot_beat j v) d)) in
          snapped_filled (with_snapshot k (agreement_of b v)) (snapped_view k)
          (record { logs = same_logs k; snapshots = each k e taken left }) (elsewhere k e)
        where
          snapped_view : (k : SnapshotNumber) → (with_snapshot k (agreement_of b v)).marks.view ≡ v
          snapped_view one = agreement_view b v
          snapped_view two = agreement_view b v

          same_logs : (k : SnapshotNumber) (i : ℕ)
              → kept_log ns cs (logs_place v) (with_snapshot k (agreement_of b v)) i ≡ heard_logs q.heard v i
          same_logs k i = kept_snapshot k ns cs (logs_place v) (agreement_of b v) i ∙ (h.views v low soon).logs i

          each : (k : SnapshotNumber) → beat ≡ snapshot_beat k v → some (member (agreement_of b v).marks.voters) ≡ snapshot_took q k v
              → ((j : SnapshotNumber) → (beat ≡ snapshot_beat j v → ⊥)
              → snapshot_in (snapshot_at j (agreement_of b v).marks) ≡ snapshot_took q j v)
              → (j : SnapshotNumber) → snapshot_in (snapshot_at j (with_snapshot k (agreement_of b v)).marks) ≡ snapshot_took q j v
          each one e taken left one = taken
          each one e taken left two = left two (λ z. omega arith)
          each two e taken left one = left one (λ z. omega arith)
          each two e taken left two = taken

          elsewhere : (k : SnapshotNumber) → beat ≡ snapshot_beat k v → (u : ℕ) → (u ≡ v → ⊥) → NoneOf u
          elsewhere one e u d one z = d (omega arith)
          elsewhere one e u d two z = omega arith
          elsewhere two e u d one z = omega arith
          elsewhere two e u d two z = d (omega arith)
