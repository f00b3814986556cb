-- What an act uses, makes and decides, by the history: the log it uses by its row, that a LOG is made as a vote, and that a log is
-- decided at a view's close beat; and what a decision makes of what stands. Assumes nothing.
use Prim.Native.Nat.{ℕ, zero, suc, ◌≤◌}
use native.Mathlib.Omega.{arith}
use mathlib.Core.Path.{◌≡◌, refl, sym, ap, ◌∙◌}
use mathlib.Core.Option.{Option, some, none, none-ne-some}
use mathlib.Core.Bool.{Bool, true, false}
use borrow.Author.Tests.{leb-true, le-leb}
use Rattle.message.specs.Logs.{Block, Log, is_prefix}
use Rattle.message.specs.Message.{Content, Meaning, log_message, proposal_message, said}
use Rattle.message.proofs.TestLaws.{either}
use Rattle.agreement.specs.Record.{one, two}
use Rattle.agreement.specs.Heard.{heard_logs, grade_with, heard_proposals, vote_among}
use Rattle.bench.specs.Terms.{Seat, weight_of}
use Rattle.bench.specs.Calendar.{last_view, input_beat, close_beat, view_of, place_in, Act, proposing, voting, deciding, act_at}
use Rattle.bench.specs.Acts.{used_first, may_propose, propose, vote, is_view, in_views, makes, decides, Stand, settle}
use Rattle.bench.specs.History.{History, beat_now, snapshot_took, grade_at, used_at, seen_at, made_by, decided_by}

-- ---- the log that an act uses

module _ (S : Seat) (p : History) where
  pub used_first_lem : (a : Act) → used_at S p 0 a ≡ used_first a
  unfolding used_at
  used_first_lem a = refl

  -- grade 1 of the agreement before
  pub used_lock : (u : ℕ) → used_at S p (suc u) voting
      ≡ grade_with S.terms.n (weight_of S.terms) (heard_logs p.heard u) (snapshot_took p two u)
  unfolding used_at grade_at
  used_lock u = refl

  -- and grade 2
  used_decision : (u : ℕ) → used_at S p (suc u) deciding
      ≡ grade_with S.terms.n (weight_of S.terms) (heard_logs p.heard u) (snapshot_took p one u)
  unfolding used_at grade_at
  used_decision u = refl

-- ---- what an act makes

pub views_some : (v : ℕ) (o : Option Meaning) (m : Meaning) → in_views v o ≡ some m → (v ≤ last_view) × (o ≡ some m)
views_some v o m e = go (is_view v) refl
  where
    go : (t : Bool) → is_view v ≡ t → (v ≤ last_view) × (o ≡ some m)
    go true q = (leb-true v last_view q, rw q at e)
    go false q = absurd (none-ne-some _ (rw q at e))

-- A LOG that a bench makes is its vote: under its number, at the view's input beat, for what the lock chooses.
pub record Vote (S : Seat) (p : History) (m : Content) : Type 0 where
  pub sender : m.sender ≡ S.own
  pub beat : beat_now p ≡ input_beat m.view
  pub range : m.view ≤ last_view
  pub locked : Log
  pub is_lock : used_at S p m.view voting ≡ some locked
  pub voted : m.log ≡ vote_among S.terms.n (heard_proposals p.proposals m.view) locked

meaning_kind : Option Meaning → ℕ
meaning_kind none = 0
meaning_kind (some (log_message m)) = 1
meaning_kind (some (proposal_message m k)) = 2

abbrev content_or : Content → Option Meaning → Content
content_or d none = d
content_or d (some m) = said m

same_log_lem : (h k : Content) → some (log_message h) ≡ some (log_message k) → h ≡ k
same_log_lem h k e = ap (content_or h) e

propose_no_log : (own v : ℕ) (block : Block) (priority : ℕ) (C : Option Log) (h : Content)
    → propose own v block priority C ≡ some (log_message h) → ⊥
unfolding propose meaning_kind
propose_no_log own v block priority none h e = none-ne-some _ e
propose_no_log own v block priority (some C) h e =
    either (may_propose block C)
    (λ q. let z : ◌≡◌ {A = ℕ} 2 1 = ap meaning_kind (rw (q, propose) at e) in omega arith)
    (λ q. none-ne-some _ (rw (q, propose) at e))

vote_shape : (own v : ℕ) (choose : Log → Log) (L : Option Log) (h : Content) → vote own v choose L ≡ some (log_message h)
    → (M : Log) × (L ≡ some M) × (h ≡ record { sender = own; view = v; log = choose M })
unfolding vote
vote_shape own v choose none h e = absurd (none-ne-some _ e)
vote_shape own v choose (some M) h e = (M, refl, sym (same_log_lem _ _ e))

makes-vote : (S : Seat) (p : History) (block : Block) (priority v r : ℕ) (h : Content) → view_of (beat_now p) ≡ v → place_in (beat_now p) ≡ r
    → makes S.own v block priority (seen_at S p v (act_at r)) (act_at r) ≡ some (log_message h) → Vote S p h
unfolding makes
makes-vote S p block priority v zero h ev er e =
    absurd (propose_no_log S.own v block priority (used_at S p v proposing) h (views_some v _ _ e).1)
makes-vote S p block priority v (suc zero) h ev er e =
    let x = views_some v _ _ e in
    let s = vote_shape S.own v (vote_among S.terms.n (heard_proposals p.proposals v)) (used_at S p v voting) h x.1 in
    let hv : h.view ≡ v = ap (λ (k : Content). k.view) s.2 in
    let r = x.0 in
    record {
      sender = ap (λ (k : Content). k.sender) s.2;
      beat = omega arith;
      range = omega arith;
      locked = s.0;
      is_lock = ap (λ (u : ℕ). used_at S p u voting) hv ∙ s.1;
      voted = ap (λ (k : Content). k.log) s.2
          ∙ ap (λ (u : ℕ). vote_among S.terms.n (heard_proposals p.proposals u) s.0) (sym hv);
    }
makes-vote S p block priority v (suc (suc zero)) h ev er e = absurd (none-ne-some _ e)
makes-vote S p block priority v (suc (suc (suc r))) h ev er e = absurd (none-ne-some _ e)

pub made_vote : (S : Seat) (p : History) (block : Block) (priority : ℕ) (h : Content) → made_by S p block priority ≡ some (log_message h)
    → Vote S p h
unfolding made_by
made_vote S p block priority h e = makes-vote S p block priority (view_of (beat_now p)) (place_in (beat_now p)) h refl refl e

-- an act at a view's input beat votes, where there is a lock
pub makes_log : (S : Seat) (p : History) (block : Block) (priority v : ℕ) (K : Log) → beat_now p ≡ input_beat v → v ≤ last_view
    → used_at S p v voting ≡ some K
    → made_by S p block priority
    ≡ some (log_message (record { sender = S.own; view = v; log = vote_among S.terms.n (heard_proposals p.proposals v) K }))
unfolding made_by makes vote
makes_log S p block priority v K e l q =
    let d : view_of (beat_now p) ≡ v = omega arith in
    let m : place_in (beat_now p) ≡ 1 = omega arith in
    rw (d, m, q) (rw (le-leb v last_view l, in_views))

-- ---- what it decides

-- only at a view's close beat, the third beat of the next view, and the log of grade 2
pub record Decision (S : Seat) (p : History) (L : Log) : Type 0 where
  pub view : ℕ
  pub beat : beat_now p ≡ close_beat view
  pub given : grade_with S.terms.n (weight_of S.terms) (heard_logs p.heard view) (snapshot_took p one view) ≡ some L

decides_third : (S : Seat) (p : History) (v r : ℕ) (L : Log) → view_of (beat_now p) ≡ v → place_in (beat_now p) ≡ r
    → decides (seen_at S p v (act_at r)) (act_at r) ≡ some L → Decision S p L
decides_third S p v zero L ev er e = absurd (none-ne-some _ e)
decides_third S p v (suc zero) L ev er e = absurd (none-ne-some _ e)
decides_third S p zero (suc (suc zero)) L ev er e = absurd (none-ne-some _ (sym (used_first_lem S p deciding) ∙ e))
decides_third S p (suc u) (suc (suc zero)) L ev er e = record { view = u; beat = omega arith; given = sym (used_decision S p u) ∙ e }
decides_third S p v (suc (suc (suc r))) L ev er e = absurd (none-ne-some _ e)

pub decision : (S : Seat) (p : History) (L : Log) → decided_by S p ≡ some L → Decision S p L
unfolding decided_by
decision S p L e = decides_third S p (view_of (beat_now p)) (place_in (beat_now p)) L refl refl e

-- ---- what a decision makes of what stands

pub settle_none : (st : Stand) → settle st none ≡ st
unfolding settle
settle_none st = refl

-- it extends what stands, or is a prefix of it, or is in conflict with it
pub settle_cases : (st : Stand) (L : Log) (P : Stand → Type 0) → (is_prefix st.log L ≡ true → P (record { log = L; parted = st.parted }))
    → (is_prefix st.log L ≡ false → is_prefix L st.log ≡ true → P st)
    → (is_prefix st.log L ≡ false → is_prefix L st.log ≡ false → P (record { log = st.log; parted = true })) → P (settle st (some L))
unfolding settle
settle_cases st L P extends stays parts =
    either (is_prefix st.log L) (λ e. rw e (extends e)) (λ e.
    either (is_prefix L st.log) (λ f. rw (e, f) (stays e f)) (λ f. rw (e, f) (parts e f)))
