-- What record and history hold of the open views stays the same: where the decided log is written, where the agreement of a view or the
-- proposals change with the history, and where an act is recorded that is of no snapshot. Assumes nothing.
use Prim.Native.Nat.{ℕ, ◌+◌, ◌≤◌, ◌<◌}
use native.Mathlib.Decide.{ℕ_discrete}
use native.Mathlib.Omega.{arith}
use mathlib.Core.Bool.{Bool-discrete}
use mathlib.Core.List.{List}
use mathlib.Core.Logic.{inl, inr}
use mathlib.Core.Option.{none}
use mathlib.Core.Path.{◌≡◌, sym, ap, subst, ◌∙◌}
use Rattle.message.specs.Limits.{most_blocks}
use Rattle.message.proofs.TestLaws.{either}
use Rattle.agreement.specs.Limits.{most_senders, span}
use Rattle.agreement.specs.Record.{empty_agreement, snapshot_at, Agreement, SnapshotNumber, one, two}
use Rattle.agreement.specs.Kept.{snapshot_in}
use Rattle.agreement.specs.Proposals.{empty_proposals, Proposals}
use Rattle.agreement.specs.Heard.{heard_logs, heard_proposals}
use Rattle.agreement.proofs.ElsewhereLaws.{Apart, Elsewhere, kept_elsewhere, proposal_kept_elsewhere}
use Rattle.agreement.proofs.KeptOfLaws.{heard_no_view, proposals_no_view}
use Rattle.bench.specs.Layout.{is_even, logs_place, proposals_place, decided_place}
use Rattle.bench.specs.Calendar.{last_view, view_beat, input_beat, snapshot_beat, close_beat}
use Rattle.bench.specs.History.{History, heard_at, snapshot_of, snapshot_took}
use Rattle.bench.specs.Record.{agreement_of, with_agreement, proposals_of, with_proposals, Bench}
use Rattle.bench.proofs.Valid.{ValidAgreement, ValidProposals, Valid}
use Rattle.agreement.proofs.EmptyLaws.{empty_kept, empty_proposal_kept}
use Rattle.bench.proofs.Slots.{agreement_valid, proposals_valid, changed_own, changed_across, changed_beside, parity_apart}
use Rattle.bench.proofs.Slots.{proposals_own, proposals_beside}
use Rattle.bench.proofs.Refinement.{Holds, HoldsProposals, Since, Filled, no_act_lem}

-- ---- no two parts of the lists overlap

pub logs_low : (v : ℕ) → logs_place v + span ≤ proposals_place
logs_low v = either (is_even v) (λ t. rw t (omega arith)) (λ t. rw t (omega arith))

pub logs_apart : (u v : ℕ) → (is_even u ≡ is_even v → ⊥) → Apart (logs_place u) span (logs_place v) span
logs_apart u v h =
    either (is_even u)
    (λ q. either (is_even v) (λ t. absurd (h (q ∙ sym t))) (λ t. rw (q, t) (inl (omega arith))))
    (λ q. either (is_even v) (λ t. rw (q, t) (inr (omega arith))) (λ t. absurd (h (q ∙ sym t))))

-- ---- lists that changed elsewhere

module _ {n b w : ℕ} {ns cs ns' cs' : List ℕ} (d : Elsewhere b w ns cs ns' cs') where
  pub holds_elsewhere : (g : Agreement) (p : History) (v : ℕ) → n ≤ most_senders → ValidAgreement n g → Apart (logs_place v) span b w
      → Holds ns cs g p v → Holds ns' cs' g p v
  holds_elsewhere g p v m f far h = record {
    logs = λ i. kept_elsewhere d (logs_place v) far g (λ j. (f.sender j).short) i (λ e. (f.sender i).no_voter (omega arith)) ∙ h.logs i;
    snapshots = h.snapshots;
  }

  pub proposals_elsewhere : (g : Proposals) (p : History) (v : ℕ) → n ≤ most_senders → ValidProposals n g → Apart proposals_place span b w
      → HoldsProposals ns cs g p v → HoldsProposals ns' cs' g p v
  proposals_elsewhere g p v m f far h i =
      proposal_kept_elsewhere d proposals_place far g (λ j. (f.proposer j).short) i (λ e. (f.proposer i).not_filed (omega arith)) ∙ h i

-- ---- the decided log is written

pub filled_decided : {b : Bench} {ns cs ns' cs' : List ℕ} {p : History} → Valid b → Elsewhere decided_place most_blocks ns cs ns' cs'
    → Filled b ns cs p → Filled b ns' cs' p
filled_decided {b} {p = p} f d h = record {
  views = λ v i o. let a = logs_low v in
      holds_elsewhere d (agreement_of b v) p v f.few (agreement_valid b v i f) (inl (omega arith)) (h.views v i o);
  proposals = λ v i o. proposals_elsewhere d (proposals_of b v) p v f.few (proposals_valid b v i f) (inl (omega arith))
      (h.proposals v i o);
  since = h.since;
}

-- ---- a history that has the same of a view

pub record SameView (p q : History) (u : ℕ) : Type 0 where
  pub logs : (i : ℕ) → heard_logs q.heard u i ≡ heard_logs p.heard u i
  pub acts : (k : SnapshotNumber) → heard_at q.actions (snapshot_beat k u) ≡ heard_at p.actions (snapshot_beat k u)

pub holds_same : {ns cs : List ℕ} {g : Agreement} {p q : History} {u : ℕ} → SameView p q u → Holds ns cs g p u → Holds ns cs g q u
holds_same {u = u} s h = record {
  logs = λ i. h.logs i ∙ sym (s.logs i);
  snapshots = λ k. h.snapshots k ∙ ap (snapshot_of u) (sym (s.acts k));
}

-- ---- nothing is held of a view whose time has not come

module _ {next : ℕ} {p : History} (since : Since next p) (u : ℕ) where
  -- so the empty agreement holds all of it
  pub empty_holds : (ns cs : List ℕ) → next ≤ input_beat u → Holds ns cs (empty_agreement u) p u
  empty_holds ns cs o =
      let none-at : (c : ℕ) → next ≤ c → none ≡ snapshot_of u (heard_at p.actions c) =
      λ c e. ap (snapshot_of u) (sym (no_act_lem p.actions c (λ d i. let k = since.acts d i in omega arith))) in
      record {
        logs = λ i. empty_kept ns cs (logs_place u) u i
            ∙ sym (heard_no_view p.heard u i (λ m j e. let k = since.logs m j in omega arith));
        snapshots = λ (k : SnapshotNumber). elim k as (λ (k : SnapshotNumber).
            snapshot_in (snapshot_at k (empty_agreement u).marks) ≡ snapshot_took p k u) [
              | one ↦ none-at (snapshot_beat one u) (omega arith)
              | two ↦ none-at (snapshot_beat two u) (omega arith)
            ];
      }

  pub empty_proposals_holds : (ns cs : List ℕ) → next ≤ view_beat u → HoldsProposals ns cs (empty_proposals u) p u
  empty_proposals_holds ns cs o i =
      empty_proposal_kept ns cs proposals_place u i
      ∙ sym (proposals_no_view p.proposals u i (λ m j e. let k = since.proposals m j in omega arith))

-- ---- the agreement of an open view changes, and the history with it

module _ {b : Bench} {ns cs ns' cs' : List ℕ} {p q : History} (f : Valid b) (h : Filled b ns cs p) (v : ℕ) (late : input_beat v < b.next)
    (soon : b.next ≤ close_beat v + 1)
    (lists : Elsewhere (logs_place v) span ns cs ns' cs') (g : Agreement) (view : g.marks.view ≡ v)
    (here : Holds ns' cs' g q v) (there : (u : ℕ) → (u ≡ v → ⊥) → u ≤ last_view → SameView p q u) where
  -- another view of the parity is shut, or its time has not come
  beside_holds : (u : ℕ) → (u ≡ v → ⊥) → is_even u ≡ is_even v → u ≤ last_view → b.next ≤ close_beat u + 1
      → Holds ns' cs' (empty_agreement u) q u
  beside_holds u d e i o = elim (parity_apart u v e d) [
    | inl y ↦ absurd (omega arith)
    | inr y ↦ holds_same (there u d i) (empty_holds h.since u ns' cs' (omega arith))
  ]

  across_holds : (u : ℕ) → (u ≡ v → ⊥) → (is_even u ≡ is_even v → ⊥) → u ≤ last_view → b.next ≤ close_beat u + 1
      → Holds ns' cs' (agreement_of b u) q u
  across_holds u d e i o =
      holds_same (there u d i)
      (holds_elsewhere lists (agreement_of b u) p u f.few (agreement_valid b u i f) (logs_apart u v e) (h.views u i o))

  pub agreement_views : (u : ℕ) → u ≤ last_view → b.next ≤ close_beat u + 1 → Holds ns' cs' (agreement_of (with_agreement b v g) u) q u
  agreement_views u i o = elim (ℕ_discrete u v) [
    | yes e ↦ subst (λ (x : ℕ). Holds ns' cs' (agreement_of (with_agreement b v g) x) q x) (sym e)
        (subst (λ (a : Agreement). Holds ns' cs' a q v) (sym (changed_own b v g view)) here)
    | no d ↦ elim (Bool-discrete (is_even u) (is_even v)) [
      | yes e ↦ subst (λ (a : Agreement). Holds ns' cs' a q u) (sym (changed_beside b v g view u d e)) (beside_holds u d e i o)
      | no e ↦ subst (λ (a : Agreement). Holds ns' cs' a q u) (sym (changed_across b v g u e)) (across_holds u d e i o)
    ]
  ]

-- ---- the proposals change

pub proposals_views : {b : Bench} {ns cs : List ℕ} {p : History} (ns' cs' : List ℕ) (q : History) → Filled b ns cs p → (v : ℕ)
    → view_beat v < b.next → b.next ≤ input_beat v + 1
    → (g : Proposals) → g.marks.view ≡ v → HoldsProposals ns' cs' g q v
    → ((u : ℕ) → (u ≡ v → ⊥) → (i : ℕ) → heard_proposals q.proposals u i ≡ heard_proposals p.proposals u i)
    → (u : ℕ) → b.next ≤ input_beat u + 1 → HoldsProposals ns' cs' (proposals_of (with_proposals b g) u) q u
proposals_views {b} {p = p} ns' cs' q h v late soon g view here there u o = elim (ℕ_discrete u v) [
  | yes e ↦
      subst (λ (x : ℕ). HoldsProposals ns' cs' (proposals_of (with_proposals b g) x) q x) (sym e)
      (subst (λ (a : Proposals). HoldsProposals ns' cs' a q v) (sym (proposals_own b v g view)) here)
  | no d ↦
      subst (λ (a : Proposals). HoldsProposals ns' cs' a q u) (sym (proposals_beside b v g u view d))
      (λ i. empty_proposals_holds h.since u ns' cs' (omega arith) i ∙ sym (there u d i))
]
