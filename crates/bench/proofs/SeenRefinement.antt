-- What an act sees in the record is what it sees in the history, at the beats at which it looks: so it makes and decides the same. Assumes
-- nothing.
use Prim.Native.Nat.{ℕ, zero, suc, ◌+◌, ◌≤◌}
use native.Mathlib.Omega.{arith}
use mathlib.Core.Bool.{false}
use mathlib.Core.Option.{Option, some, none}
use mathlib.Core.Path.{◌≡◌, refl, ap, ◌∙◌, fun_ext}
use borrow.Author.Tests.{le-ltb, leb-true}
use lib.ListN.{length}
use Rattle.message.specs.Logs.{Block, Log}
use Rattle.message.specs.Message.{Meaning, log_message}
use Rattle.message.proofs.TestLaws.{either}
use Rattle.agreement.specs.Limits.{most_senders, span}
use Rattle.agreement.specs.Record.{lacks_room, SnapshotNumber, one, two, snapshot_at, Agreement}
use Rattle.agreement.specs.Kept.{Kept, Proposed, kept_log, kept_proposal, snapshot_in}
use Rattle.agreement.specs.Grades.{grade_by, grade_of}
use Rattle.agreement.specs.Heard.{heard_logs, grade_now, grade_with, heard_proposals, vote_among}
use Rattle.agreement.proofs.RecordLaws.{Within, grade_zero, grade_by_lem, grade_now_cong, grade_with_cong, vote_kept}
use Rattle.bench.specs.Terms.{Seat, weight_of}
use Rattle.bench.specs.Calls.{Core}
use Rattle.bench.specs.Layout.{logs_place, proposals_place}
use Rattle.bench.specs.Calendar.{last_view, last_beat, input_beat, close_beat, view_of, place_in, voting, act_at}
use Rattle.bench.specs.Acts.{is_view, in_views, propose, vote, makes, decides}
use Rattle.bench.specs.History.{History, snapshot_took, grade_at, used_at, seen_at}
use Rattle.bench.specs.Record.{agreement_of, proposals_of, Bench}
use Rattle.bench.specs.ByRecord.{used_of, seen_of}
use Rattle.bench.proofs.Valid.{ValidAgreement}
use Rattle.bench.proofs.Slots.{agreement_valid, proposals_valid}
use Rattle.bench.proofs.Refinement.{Holds, Refines}
use Rattle.bench.proofs.Filling.{logs_low}

-- the limits of an agreement, as its grades want them
within_valid : (n : ℕ) (g : Agreement) → n ≤ most_senders → ValidAgreement n g → Within n g
within_valid n g few f = record {
  few = few;
  voters = λ i h l. (f.sender i).no_voter h;
  equivocators = λ i h l. (f.sender i).no_equivocator h;
  apart = λ i l e. (f.sender i).apart e;
  short = λ i l. (f.sender i).short;
}

module _ (S : Seat) (s : Core) (p : History) (t : Refines S s p) where
  abbrev b : Bench
  b = s.bench

  room : (v : ℕ) → lacks_room s.names s.counts (logs_place v) ≡ false
  room v =
      let x = t.roomy.names in
      let y = t.roomy.counts in
      let z = logs_low v in
      rw (le-ltb (length s.names) (logs_place v + span) (omega arith), le-ltb (length s.counts) (logs_place v + span) (omega arith))

  -- ---- the grades of an open view's agreement

  module _ (u : ℕ) (low : u ≤ last_view) (still : b.next ≤ close_beat u + 1) where
    abbrev g : Agreement
    g = agreement_of b u

    held : Holds s.names s.counts g p u
    held = t.filled.views u low still

    within : Within b.n g
    within = within_valid b.n g t.valid.few (agreement_valid b u low t.valid)

    abbrev kept : ℕ → Kept Log
    kept = kept_log s.names s.counts (logs_place u) g

    by_snapshot : (k : SnapshotNumber) → grade_by s.names s.counts (logs_place u) g (snapshot_at k g.marks)
        ≡ grade_with S.terms.n (weight_of S.terms) (heard_logs p.heard u) (snapshot_took p k u)
    unfolding weight_of
    by_snapshot k =
        grade_by_lem b.n s.names s.counts (logs_place u) g within (room u) (snapshot_at k g.marks)
        ∙ ap (λ (n : ℕ). grade_with n (weight_of S.terms) kept (snapshot_in (snapshot_at k g.marks))) t.n_is
        ∙ grade_with_cong S.terms.n (weight_of S.terms) kept (heard_logs p.heard u) (λ i l. held.logs i)
        (snapshot_in (snapshot_at k g.marks))
        ∙ ap (grade_with S.terms.n (weight_of S.terms) (heard_logs p.heard u)) (held.snapshots k)

    grade_same : (k : ℕ) → grade_of s.names s.counts (logs_place u) g k ≡ grade_at S p u k
    unfolding grade_at weight_of
    grade_same zero =
        grade_zero b.n s.names s.counts (logs_place u) g within (room u)
        ∙ ap (λ (n : ℕ). grade_now n (weight_of S.terms) kept) t.n_is
        ∙ grade_now_cong S.terms.n (weight_of S.terms) kept (heard_logs p.heard u) (λ i l. held.logs i)
    grade_same (suc zero) = by_snapshot two
    grade_same (suc (suc k)) = by_snapshot one

  -- ---- the vote

  abbrev chooseOf : ℕ → Log → Log
  chooseOf v = vote_among most_senders (kept_proposal s.names s.counts proposals_place (proposals_of b v))

  abbrev chooseAt : ℕ → Log → Log
  chooseAt v = vote_among S.terms.n (heard_proposals p.proposals v)

  choose_same : (v : ℕ) → v ≤ last_view → b.next ≤ input_beat v + 1 → (L : Log) → chooseOf v L ≡ chooseAt v L
  choose_same v low still L =
      let f = proposals_valid b v low t.valid in
      let filed = kept_proposal s.names s.counts proposals_place (proposals_of b v) in
      let same : filed ≡ heard_proposals p.proposals v = fun_ext (λ i. t.filled.proposals v low still i) in
      vote_kept b.n s.names s.counts proposals_place (proposals_of b v) L t.valid.few (λ i h l. (f.proposer i).not_filed h)
      (λ i h l. (f.proposer i).not_aside h)
      ∙ ap (λ (k : ℕ). vote_among k filed L) t.n_is
      ∙ ap (λ (x : ℕ → Kept Proposed). vote_among S.terms.n x L) same

  votes_same : (v : ℕ) (lock : Option Log) → v ≤ last_view → b.next ≤ input_beat v + 1
      → vote S.own v (chooseOf v) lock ≡ vote S.own v (chooseAt v) lock
  unfolding vote
  votes_same v none low still = refl
  votes_same v (some L) low still =
      ap {B = Option Meaning} (λ (M : Log). some (log_message (record { sender = S.own; view = v; log = M }))) (choose_same v low still L)

  -- ---- what is made, and what is decided, at the beat that it is

  module _ (block : Block) (priority beat : ℕ) (now : b.next ≡ beat + 1) where
    in_limit : beat ≤ last_beat
    in_limit = let e = t.valid.next in omega arith

    used_same : (v r : ℕ) → view_of beat ≡ v → place_in beat ≡ r → used_of s v (act_at r) ≡ used_at S p v (act_at r)
    unfolding used_of used_at
    used_same zero r ev er = refl
    used_same (suc u) zero ev er = let l = in_limit in grade_same u (omega arith) (omega arith) 0
    used_same (suc u) (suc zero) ev er = let l = in_limit in grade_same u (omega arith) (omega arith) 1
    used_same (suc u) (suc (suc zero)) ev er = let l = in_limit in grade_same u (omega arith) (omega arith) 2
    used_same (suc u) (suc (suc (suc r))) ev er = refl

    pub makes_same : (v r : ℕ) → view_of beat ≡ v → place_in beat ≡ r
        → makes S.own v block priority (seen_of s v (act_at r)) (act_at r) ≡ makes S.own v block priority (seen_at S p v (act_at r))
        (act_at r)
    unfolding makes
    makes_same v zero ev er = ap (λ (C : Option Log). in_views v (propose S.own v block priority C)) (used_same v 0 ev er)
    makes_same v (suc zero) ev er =
        either (is_view v)
        (λ i. ap (in_views v)
        (votes_same v (used_of s v voting) (leb-true v last_view i) (omega arith) ∙ ap (vote S.own v (chooseAt v)) (used_same v 1 ev er)))
        (λ i. rw i)
    makes_same v (suc (suc zero)) ev er = refl
    makes_same v (suc (suc (suc r))) ev er = refl

    pub decides_same : (v r : ℕ) → view_of beat ≡ v → place_in beat ≡ r
        → decides (seen_of s v (act_at r)) (act_at r) ≡ decides (seen_at S p v (act_at r)) (act_at r)
    decides_same v zero ev er = refl
    decides_same v (suc zero) ev er = refl
    decides_same v (suc (suc zero)) ev er = used_same v 2 ev er
    decides_same v (suc (suc (suc r))) ev er = refl
