-- The calendar of four-beat views as a Timetable: one agreement a view, votes at 4v+1 on grade 1 of the view before with its snapshot of
-- 4v-1, decisions of grade 2 at 4v+6 with the snapshot of 4v+2. So demand 3's premises give safety. Assumes nothing.
use Prim.Native.Nat.{ℕ, zero, suc, ◌≤◌, ◌<◌}
use native.Mathlib.Omega.{arith}
use mathlib.Core.Path.{◌≡◌, refl, sym, ap, subst, ◌∙◌}
use mathlib.Core.List.{List, []}
use mathlib.Core.Option.{some}
use mathlib.Core.Bool.{Bool, true, false, not, ◌&&◌, and-eq-true_iff}
use borrow.Author.Tests.{lt-ltb}
use Rattle.message.specs.Logs.{Log, Prefix, Compatible}
use Rattle.message.specs.Message.{Content}
use Rattle.agreement.specs.Heard.{heard_logs, voters_of, heard_proposals, vote_among}
use Rattle.agreement.proofs.SetLaws.{weigh_cong}
use Rattle.agreement.proofs.SenderLaws.{grade_some}
use Rattle.agreement.proofs.GradeSources.{vote_extends, log_by}
use Rattle.bench.specs.Calendar.{last_view, input_beat, snapshot_one_beat, snapshot_two_beat, close_beat, voting}
use Rattle.bench.specs.Terms.{Terms, Seat, seat_of, weight_of}
use Rattle.bench.specs.Calls.{Call}
use Rattle.bench.specs.History.{History, used_at, after, awake}
use Rattle.bench.proofs.HistoryActs.{used_first_lem, used_lock, Vote, made_vote, makes_log, Decision, decision}
use Rattle.demand.specs.Places.{ActsAfter, MakesAfter, Decides}
use Rattle.demand.specs.Premises.{Volume, seat, Keeps, Delivery, Numbers, Majority, counted, breaker}
use Rattle.demand.proofs.Beats.{beat_is}
use Rattle.demand.proofs.ActPlaces.{place_heard_at, recorded_before}
use Rattle.demand.proofs.Snapshots.{GradedAt, graded_at}
use Rattle.demand.proofs.Taking.{taken_window, act_begun}
use Rattle.demand.proofs.Timetable.{Timetable, GradeAfter}
use Rattle.demand.proofs.HearingOf.{keepsb, awakeb, awake_place, Keeping}
use Rattle.demand.proofs.Votes.{awakeTo, memberOf, MajorityIn, no_conflict_by}

-- ---- votes

module _ (S : Seat) (cs : List Call) where
  the_vote : (pre : List Call) (b : ℕ) (m : Content) (t : MakesAfter S cs pre b m) → Vote S (after S pre) m
  the_vote pre b m t = made_vote S (after S pre) t.acts.block t.acts.priority m t.made

  made_beat : (pre : List Call) (b : ℕ) (m : Content) → MakesAfter S cs pre b m → b ≡ input_beat m.view
  made_beat pre b m t = sym (beat_is (after S pre) b t.acts.beat) ∙ (the_vote pre b m t).beat

  made_lock : (pre : List Call) (b v : ℕ) (L : Log) → MakesAfter S cs pre b (log_by S.own (suc v) L)
      → (K : Log) × GradedAt S cs pre v (snapshot_two_beat v) K × Prefix K L
  made_lock pre b v L t =
      let a = the_vote pre b (log_by S.own (suc v) L) t in (
        a.locked,
        graded_at S cs pre _ t.acts.place.1 v (snapshot_two_beat v) a.locked (sym (used_lock S (after S pre) v) ∙ a.is_lock),
        subst (Prefix a.locked) (sym a.voted)
            (vote_extends S.terms.n (heard_proposals (after S pre).proposals (suc v)) a.locked),
      )

  -- an act at a view's input beat votes, where there is a lock
  acts_vote : (pre : List Call) (v : ℕ) (K : Log) (a : ActsAfter S cs pre (input_beat v)) → v ≤ last_view
      → used_at S (after S pre) v voting ≡ some K
      → (L : Log) × MakesAfter S cs pre (input_beat v) (log_by S.own v L)
  acts_vote pre v K a l q =
      let p = after S pre in
      let m = makes_log S p a.block a.priority v K (beat_is p (input_beat v) a.beat) l q in
      (vote_among S.terms.n (heard_proposals p.proposals v) K, record { acts = a; made = m })

  next_made : (start pre : List Call) (v : ℕ) → suc v ≤ last_view → ActsAfter S cs start (snapshot_two_beat v)
      → ActsAfter S cs pre (input_beat (suc v))
      → (K : Log) → GradeAfter S pre v start K → (L : Log) × MakesAfter S cs pre (input_beat (suc v)) (log_by S.own (suc v) L)
  next_made start pre v l a b K g =
      let m = grade_some S.terms.n (weight_of S.terms) (heard_logs (after S pre).heard v)
      (voters_of (heard_logs (after S start).heard v)) K g in
      let s = place_heard_at S cs pre _ b.place.1 start (snapshot_two_beat v) a
      (recorded_before S cs start (snapshot_two_beat v) a pre (input_beat (suc v)) b (omega arith)) in
      acts_vote pre (suc v) m.0 b l (used_lock S (after S pre) v ∙ rw s m.1)

  first_made : (pre : List Call) → ActsAfter S cs pre (input_beat 0) → (L : Log) × MakesAfter S cs pre (input_beat 0) (log_by S.own 0 L)
  first_made pre a = acts_vote pre 0 [] a (omega arith) (used_first_lem S (after S pre) voting)

-- ---- decisions

module _ (S : Seat) (cs : List Call) (L : Log) (d : Decides S cs L) where
  abbrev p : History
  p = after S d.pre

  decided : Decision S p L
  decided = decision S p L d.decided

  closes : d.beat ≡ close_beat decided.view
  closes = sym (beat_is p d.beat d.acts.beat) ∙ decided.beat

  view_low : decided.view ≤ last_view
  view_low =
      let l = (act_begun S cs d.pre d.beat d.acts).1 in
      let e = closes in
      omega arith

  decision_graded : GradedAt S cs d.pre decided.view (snapshot_one_beat decided.view) L
  decision_graded = graded_at S cs d.pre _ d.acts.place.1 decided.view (snapshot_one_beat decided.view) L decided.given

-- ---- the calendar

pub four_beats : (T : Terms) → Timetable T
four_beats T = record {
  last = last_view;
  input = input_beat;
  look = snapshot_two_beat;
  close = close_beat;
  input_look = λ v. omega arith;
  look_next = λ v. omega arith;
  next_close = λ v. omega arith;
  taken_late = λ {own} {b} {cs} {pre} {m} t. (taken_window (seat_of T own) cs pre b m t).0;
  made_own = λ {own} {b} {cs} {pre} {m} t. (the_vote (seat_of T own) cs pre b m t).sender;
  made_beat = λ {own} {b} {cs} {pre} {m} t. made_beat (seat_of T own) cs pre b m t;
  made_lock = λ {own} {b} {k} {cs} {pre} {L} t. made_lock (seat_of T own) cs pre b k L t;
  first_made = λ {own} {cs} {pre} a. first_made (seat_of T own) cs pre a;
  next_made = λ {own} {k} {cs} {start} {pre} l a b K g. next_made (seat_of T own) cs start pre k l a b K g;
  agreement = λ {own} {cs} {L} d. (decided (seat_of T own) cs L d).view;
  snapshot = λ {own} {cs} {L} d. snapshot_one_beat (decided (seat_of T own) cs L d).view;
  in_range = λ {own} {cs} {L} d. view_low (seat_of T own) cs L d;
  after_input = λ {own} {cs} {L} d. omega arith;
  before_look = λ {own} {cs} {L} d. omega arith;
  after_lock = λ {own} {cs} {L} d. omega (arith, closes (seat_of T own) cs L d);
  in_window = λ {own} {cs} {L} d. omega (arith, closes (seat_of T own) cs L d);
  graded = λ {own} {cs} {L} d. decision_graded (seat_of T own) cs L d;
}

-- ---- the majority

module _ (W : Volume) where
  keepsb_below : (i : ℕ) → i < W.terms.n → W.keeper i ≡ keepsb W i
  unfolding keepsb
  keepsb_below i l = rw (lt-ltb i W.terms.n l) (right (W.keeper i))
    where
      right : (a : Bool) → a ≡ (a && true)
      right true = refl
      right false = refl

  -- nobody turns
  nobody_turns : Keeping W
  unfolding awakeb
  nobody_turns = record {
    to = λ x b. keepsb W x;
    to_keeps = λ e. e;
    to_before = λ l e. e;
    awake_to = λ {x} {b} e. ((and-eq-true_iff _ _).0 e).0;
  }

  spread : (k a b : Bool) → (k && (a && b)) ≡ (((k && a) && (k && b)) && k)
  spread true true true = refl
  spread true true false = refl
  spread true false b = refl
  spread false a b = refl

  counted_same : (v i : ℕ) → i < W.terms.n → counted W v i ≡ memberOf W (four_beats W.terms) nobody_turns v i
  unfolding memberOf awakeTo awakeb four_beats nobody_turns
  counted_same zero i l =
      let a = awake (seat W i) (W.calls i) (input_beat 0) in
      ap (λ (k : Bool). k && a) (keepsb_below i l) ∙ spread_one (keepsb W i) a
    where
      spread_one : (k a : Bool) → (k && a) ≡ ((k && a) && k)
      spread_one true true = refl
      spread_one true false = refl
      spread_one false a = refl
  counted_same (suc u) i l =
      let a = awake (seat W i) (W.calls i) (snapshot_two_beat u) in
      let b = awake (seat W i) (W.calls i) (input_beat (suc u)) in
      ap (λ (k : Bool). k && (a && b)) (keepsb_below i l) ∙ spread (keepsb W i) a b

  majority_in : Majority W → MajorityIn W (four_beats W.terms) nobody_turns
  unfolding four_beats nobody_turns
  majority_in J v r b a l u m =
      let p = awake_place W r b a in
      let g = (act_begun (seat W r) (W.calls r) p.pre b p.acts).0 in
      let j = J v r p.keeps b g (omega arith) (omega arith) in
      let x = weigh_cong W.terms.n (weight_of W.terms) (breaker W) (λ x. not (keepsb W x)) (λ i k. ap not (keepsb_below i k)) in
      let y = weigh_cong W.terms.n (weight_of W.terms) (counted W v) (memberOf W (four_beats W.terms) nobody_turns v)
      (counted_same v) in
      omega arith

-- No two decided logs conflict, at two rule-keepers or at one, in any views.
pub no_conflict : (W : Volume) → Delivery W → Numbers W → Majority W
    → (i j : ℕ) → Keeps W i → Keeps W j → (L M : Log) → Decides (seat W i) (W.calls i) L → Decides (seat W j) (W.calls j) M
    → Compatible L M
unfolding four_beats
no_conflict W D N J =
    no_conflict_by W (four_beats W.terms) (nobody_turns W) D (λ p q kp kq pre b m t e to. N p q kp kq pre b m t e) (majority_in W J)
