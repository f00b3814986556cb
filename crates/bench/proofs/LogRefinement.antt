-- Filing a LOG does to the record what it does to the history, and answers the same word. Assumes nothing.
use Prim.Native.Nat.{ℕ, ◌+◌, ◌^◌, ◌≤◌, ◌<◌}
use native.Mathlib.Decide.{ℕ_discrete}
use native.Mathlib.Omega.{arith}
use mathlib.Core.Bool.{true, not, ◌||◌}
use mathlib.Core.List.Memᴰ
use mathlib.Core.List.{List, ◌∷◌}
use mathlib.Core.Logic.{inl, inr}
use mathlib.Core.Path.{◌≡◌, refl, sym, ap, subst, ◌∙◌}
use lib.Dec.{eqb}
use Rattle.message.specs.Numbers.{AllBelow}
use Rattle.message.specs.Logs.{Log, same_log, names_of, counts_of}
use Rattle.message.specs.Message.{Content, log_message, log_in, Writable}
use Rattle.message.specs.Store.{log_at, holds_log}
use Rattle.agreement.specs.Sets.{is_yes}
use Rattle.agreement.specs.Limits.{span}
use Rattle.agreement.specs.Filing.{Fit, Filing, file_of}
use Rattle.agreement.specs.Kept.{word_on, keep, kept_log, snapshot_in, SameRest}
use Rattle.agreement.specs.Heard.{heard_logs}
use Rattle.agreement.specs.Record.{Agreement, SnapshotNumber, snapshot_at, one, two}
use Rattle.agreement.specs.Proposals.{Proposals}
use Rattle.agreement.proofs.KeptLaws.{file_word, file_kept, file_apart, file_rest}
use Rattle.agreement.proofs.ElsewhereLaws.{Elsewhere, file_elsewhere}
use Rattle.agreement.proofs.KeptOfLaws.{heard_same, heard_other}
use Rattle.bench.specs.Terms.{Seat}
use Rattle.bench.specs.Calls.{Core}
use Rattle.bench.specs.Layout.{logs_place, decided_place}
use Rattle.bench.specs.Calendar.{last_view, input_beat, close_beat}
use Rattle.bench.specs.History.{History, file, word_for, snapshot_took}
use Rattle.bench.specs.Record.{agreement_of, proposals_of, with_agreement, Bench}
use Rattle.bench.specs.ByRecord.{decided_log}
use Rattle.bench.proofs.Valid.{ValidAgreement}
use Rattle.bench.proofs.ValidAgreements.{file_valid}
use Rattle.bench.proofs.ValidBench.{with_agreement_valid}
use Rattle.bench.proofs.Slots.{agreement_view, agreement_valid, proposals_valid, agreement_rest, changed_proposals}
use Rattle.bench.proofs.GoodHistory.{file_good}
use Rattle.bench.proofs.Refinement.{Holds, HoldsProposals, Filled, Roomy, last_of, Refines}
use Rattle.bench.proofs.Filling.{logs_low, SameView, agreement_views, proposals_elsewhere}

-- the bytes hold the log
pub record Carries (bytes : List ℕ) (L : Log) : Type 0 where
  pub holds : holds_log bytes ≡ true
  pub log : log_in bytes ≡ L

-- ---- lists that changed elsewhere than at the decided log

module _ {b w : ℕ} {ns cs ns' cs' : List ℕ} (d : Elsewhere b w ns cs ns' cs') where
  pub roomy_elsewhere : Roomy ns cs → Roomy ns' cs'
  roomy_elsewhere r =
      let a = d.name_length in
      let c = d.count-length in
      let n = r.names in
      let m = r.counts in
      record {
        names = omega arith;
        counts = omega arith;
        name_bound = d.name_bound r.name_bound;
        count_bound =
            d.count_bound r.count_bound;
      }

-- ---- a LOG

module _ (S : Seat) (s : Core) (p : History) (t : Refines S s p) (bytes : List ℕ) (m : Content) (good : Writable S.terms.n m)
    (c : Carries bytes m.log)
    (late : input_beat m.view < s.bench.next) (soon : s.bench.next ≤ close_beat m.view + 1) where
  abbrev b : Bench
  b = s.bench

  abbrev g : Agreement
  g = agreement_of b m.view

  abbrev r : Filing
  r = file_of g s.names s.counts (logs_place m.view) bytes m.sender

  abbrev q : History
  q = file p (log_message m)

  fits : Fit s.names s.counts (logs_place m.view) bytes m.sender
  fits =
      let a = good.sender in
      let d = t.valid.few in
      let e = t.n_is in
      let x = t.roomy.names in
      let y = t.roomy.counts in
      let z = logs_low m.view in
      record { few = omega arith; in_names = omega arith; in_counts = omega arith; holds = c.holds }

  valid_here : ValidAgreement b.n g
  valid_here = agreement_valid b m.view good.view t.valid

  elsewhere : Elsewhere (logs_place m.view) span s.names s.counts r.names r.counts
  elsewhere =
      file_elsewhere s.names s.counts (logs_place m.view) bytes m.sender fits
      (subst (λ (L : Log). AllBelow (2 ^ 64) (names_of L)) (sym c.log) good.names)
      (subst (λ (L : Log). AllBelow (2 ^ 16) (counts_of L)) (sym c.log) good.counts) g

  -- what the record held of the view
  before : Holds s.names s.counts g p m.view
  before = t.filled.views m.view good.view soon

  pub log_word : r.word ≡ word_for p (log_message m)
  unfolding word_for
  log_word =
      let e = before.logs m.sender in
      let f = c.log in
      file_word g s.names s.counts (logs_place m.view) bytes m.sender fits ∙ (λ i. word_on same_log (e i) (f i))

  holds_now : Holds r.names r.counts r.agreement q m.view
  unfolding file
  holds_now = record {
    logs = λ j. elim (ℕ_discrete j m.sender) [
      | yes x ↦ subst (λ (i : ℕ). kept_log r.names r.counts (logs_place m.view) r.agreement i ≡ heard_logs (m ∷ p.heard)
          m.view i) (sym x) own_log
      | no x ↦
          file_apart g s.names s.counts (logs_place m.view) bytes m.sender fits j x (valid_here.sender j).short
          ∙ before.logs j
          ∙ sym (heard_other p.heard m m.view j (inr x))
    ];
    snapshots = λ (k : SnapshotNumber). elim k as (λ (k : SnapshotNumber).
        snapshot_in (snapshot_at k r.agreement.marks) ≡ snapshot_took q k m.view) [
          | one ↦ ap snapshot_in rest.one ∙ before.snapshots one
          | two ↦ ap snapshot_in rest.two ∙ before.snapshots two
        ];
  }
    where
      rest : SameRest g r.agreement
      rest = file_rest g s.names s.counts (logs_place m.view) bytes m.sender

      own_log : kept_log r.names r.counts (logs_place m.view) r.agreement m.sender ≡ heard_logs (m ∷ p.heard) m.view
          m.sender
      own_log =
          let e = before.logs m.sender in
          let f = c.log in
          file_kept g s.names s.counts (logs_place m.view) bytes m.sender fits valid_here.sized.filed
          ∙ (λ i. keep same_log (e i) (f i))
          ∙ sym (heard_same p.heard m)

  same_there : (u : ℕ) → (u ≡ m.view → ⊥) → u ≤ last_view → SameView p q u
  unfolding file
  same_there u d i = record { logs = λ j. heard_other p.heard m u j (inl d); acts = λ k. refl }

  view_now : r.agreement.marks.view ≡ m.view
  view_now = (file_rest g s.names s.counts (logs_place m.view) bytes m.sender).view ∙ agreement_view b m.view

  abbrev b' : Bench
  b' = with_agreement b m.view r.agreement

  filled_now : Filled b' r.names r.counts q
  unfolding file
  filled_now =
      let e = agreement_rest b m.view r.agreement in
      let x = e.next in
      record {
        views = λ u i o. agreement_views t.valid t.filled m.view late soon elsewhere
            r.agreement view_now holds_now same_there u i (omega arith);
        proposals = λ u i o.
            subst (λ (z : Proposals). HoldsProposals r.names r.counts z q u) (sym (changed_proposals b m.view r.agreement u))
            (let z = logs_low m.view in
            proposals_elsewhere elsewhere (proposals_of b u) p u t.valid.few (proposals_valid b u i t.valid) (inr (omega arith))
            (t.filled.proposals u i (omega arith)));
        since =
            record {
              logs = λ h i. elim (Memᴰ.cases_cons i) [
                | inl y ↦ let z = ap (λ (a : Content). a.view) y in omega arith
                | inr j ↦ let z = t.filled.since.logs h j in omega arith
              ];
              proposals = λ h i. let z = t.filled.since.proposals h i in omega arith;
              acts = λ h i. let z = t.filled.since.acts h i in omega arith;
            };
      }

  -- the record refines the history after it
  pub log_refines : Refines S (record { bench = b'; names = r.names; counts = r.counts }) q
  unfolding file
  log_refines =
      let e = agreement_rest b m.view r.agreement in
      let x = e.decided in
      let y = e.parted in
      let z = logs_low m.view in
      let h = t.valid.decided in
      let same : log_at r.names r.counts decided_place b.decided ≡ decided_log s =
      elsewhere.logs decided_place b.decided (inr (omega arith)) in
      let nx = e.next in
      let ga = e.gathering in
      record {
        n_is = e.n ∙ t.n_is;
        own_is = e.own ∙ t.own_is;
        valid = with_agreement_valid b t.valid m.view r.agreement
            (file_valid b.n g valid_here s.names s.counts (logs_place m.view) bytes m.sender
            (let a = good.sender in let d = t.n_is in omega arith));
        roomy = roomy_elsewhere elsewhere t.roomy;
        last_is = ap last_of nx ∙ t.last_is;
        gathering_is = (λ i. not (not (is_yes (ga i)) || eqb (nx i) 0)) ∙ t.gathering_is;
        filled = filled_now;
        stand_is = (λ i. record { log = log_at r.names r.counts decided_place (x i); parted = is_yes (y i) })
            ∙ (λ i. record { log = same i; parted = is_yes b.parted }) ∙ t.stand_is;
        good = file_good S p (log_message m) good t.good;
      }
