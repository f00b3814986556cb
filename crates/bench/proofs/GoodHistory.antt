-- Whatever a bench takes, makes or decides lies within the limits of the message. Assumes nothing.
use Prim.Native.Nat.{ℕ, zero, suc, ◌^◌, ◌≤◌, ◌<◌}
use mathlib.Core.Bool.{not, and-eq-true_iff}
use mathlib.Core.List.Memᴰ
use mathlib.Core.List.{List, [], ◌∷◌, Memᴰ}
use mathlib.Core.Logic.{inl, inr}
use mathlib.Core.Option.{Option, some, none, none-ne-some, some-injective}
use mathlib.Core.Path.{◌≡◌, refl, sym, subst}
use borrow.Author.Tests.{ltb-true, leb-true, eqb-false, not-true}
use lib.Dec.{eqb, ltb}
use lib.ListN.{length}
use Rattle.message.specs.Limits.{most_blocks, last_view}
use Rattle.message.specs.Logs.{Block, Log}
use Rattle.message.specs.Message.{Content, Meaning, log_message, proposal_message, Parsed, refused, means, read_of, Writable, WritableMeaning}
use Rattle.message.proofs.TestLaws.{either}
use Rattle.message.proofs.Codec.{read_writable}
use Rattle.message.proofs.GoodLogs.{GoodLog, writable_log, log_writable, empty_good, prefix_good, append_good}
use Rattle.agreement.specs.Heard.{heard_logs, ProposalHeard, heard_proposals, vote_among}
use Rattle.agreement.proofs.GradeSources.{GradeSource, grade_now_source, grade_with_source, heard_source, vote_from, proposed_source}
use Rattle.bench.specs.Terms.{Seat, weight_of}
use Rattle.bench.specs.Calendar.{view_of, place_in, Act, proposing, voting, deciding, snapping, act_at}
use Rattle.bench.specs.Calls.{Call, begin, receive, act, find, Typed, AllTyped}
use Rattle.bench.specs.Acts.{may_propose, propose, vote, is_view, in_views, makes, decides}
use Rattle.bench.specs.History.{History, fresh, beat_now, refusal, file, grade_at, used_at, seen_at, made_by, decided_by, file_read}
use Rattle.bench.specs.History.{file_made, closed, accepted, or_accepted, step, after_from, after}

-- every message taken or made is within the limits
pub record GoodHistory (S : Seat) (p : History) : Type 0 where
  pub heard : (m : Content) → Memᴰ m p.heard → Writable S.terms.n m
  pub proposals : (o : ProposalHeard) → Memᴰ o p.proposals → Writable S.terms.n o.content
  pub priorities : (o : ProposalHeard) → Memᴰ o p.proposals → o.priority < 2 ^ 64

-- ---- what an act sees

module _ (S : Seat) (p : History) (g : GoodHistory S p) where
  -- a log with a grade is a prefix of one heard
  graded_good : (u : ℕ) (L : Log) → GradeSource S.terms.n (heard_logs p.heard u) L → GoodLog L
  graded_good u L s =
      prefix_good s.extends (writable_log (g.heard _ (heard_source p.heard u s.sender s.log s.kept)))

  graded : (u k : ℕ) (L : Log) → grade_at S p u k ≡ some L → GoodLog L
  unfolding grade_at
  graded u zero L e = graded_good u L (grade_now_source S.terms.n (weight_of S.terms) (heard_logs p.heard u) L e)
  graded u (suc zero) L e = graded_good u L (grade_with_source S.terms.n (weight_of S.terms) (heard_logs p.heard u) _ L e)
  graded u (suc (suc k)) L e = graded_good u L (grade_with_source S.terms.n (weight_of S.terms) (heard_logs p.heard u) _ L e)

  used_good : (v : ℕ) (a : Act) (L : Log) → used_at S p v a ≡ some L → GoodLog L
  unfolding used_at
  used_good zero proposing L e = subst GoodLog (some-injective [] L e) empty_good
  used_good zero voting L e = subst GoodLog (some-injective [] L e) empty_good
  used_good zero deciding L e = absurd (none-ne-some L e)
  used_good zero snapping L e = absurd (none-ne-some L e)
  used_good (suc u) proposing L e = graded u 0 L e
  used_good (suc u) voting L e = graded u 1 L e
  used_good (suc u) deciding L e = graded u 2 L e
  used_good (suc u) snapping L e = absurd (none-ne-some L e)

  -- a vote is the lock, or a proposal heard
  vote_good : (v : ℕ) (L : Log) → GoodLog L → GoodLog (vote_among S.terms.n (heard_proposals p.proposals v) L)
  vote_good v L l = elim (vote_from S.terms.n (heard_proposals p.proposals v) L) [
    | inl e ↦ rw e l
    | inr s ↦
        let m = proposed_source p.proposals v s.sender s.proposal s.its in
        rw s.voted (subst GoodLog m.log (writable_log (g.proposals m.message m.among)))
  ]

  -- ---- what it decides

  pub decided_good : (L : Log) → decided_by S p ≡ some L → GoodLog L
  unfolding decided_by
  decided_good L e = go (act_at (place_in (beat_now p))) e
    where
      go : (a : Act) → decides (seen_at S p (view_of (beat_now p)) a) a ≡ some L → GoodLog L
      go proposing q = absurd (none-ne-some L q)
      go voting q = absurd (none-ne-some L q)
      go deciding q = used_good (view_of (beat_now p)) deciding L q
      go snapping q = absurd (none-ne-some L q)

-- ---- what it makes

abbrev GoodMade : Seat → Option Meaning → Type 0
GoodMade S none = Unit {0}
GoodMade S (some m) = WritableMeaning S.terms.n m

module _ (S : Seat) (block : Block) (priority : ℕ)
    (lo : S.own < S.terms.n) (ln : block.name < 2 ^ 64) (lc : block.count < 2 ^ 16) (lp : priority < 2 ^ 64) where
  propose_good : (v : ℕ) (o : Option Log) → v ≤ last_view → ((L : Log) → o ≡ some L → GoodLog L)
      → GoodMade S (propose S.own v block priority o)
  unfolding propose
  propose_good v none lv c = tt
  propose_good v (some C) lv c =
      either (may_propose block C)
      (λ e.
      let t = (and-eq-true_iff (not (eqb block.name 0)) (ltb (length C) most_blocks)).0 e in
      let z = eqb-false block.name 0 (not-true (eqb block.name 0) t.0) in
      rw e (log_writable lo lv (append_good C block (ltb-true (length C) most_blocks t.1) z ln lc (c C refl)), lp))
      (λ e. rw e tt)

  votes_good : (v : ℕ) (choose : Log → Log) (o : Option Log) → v ≤ last_view → ((L : Log) → o ≡ some L → GoodLog (choose L))
      → GoodMade S (vote S.own v choose o)
  unfolding vote
  votes_good v choose none lv c = tt
  votes_good v choose (some L) lv c = log_writable lo lv (c L refl)

  in_views_good : (v : ℕ) (o : Option Meaning) → (v ≤ last_view → GoodMade S o) → GoodMade S (in_views v o)
  in_views_good v o h = either (is_view v) (λ t. rw t (h (leb-true v last_view t))) (λ t. rw t tt)

  module _ (p : History) (g : GoodHistory S p) where
    makes_good : (v : ℕ) (a : Act) → GoodMade S (makes S.own v block priority (seen_at S p v a) a)
    unfolding makes
    makes_good v proposing =
        in_views_good v (propose S.own v block priority (used_at S p v proposing))
        (λ lv. propose_good v (used_at S p v proposing) lv (used_good S p g v proposing))
    makes_good v voting =
        in_views_good v (vote S.own v (vote_among S.terms.n (heard_proposals p.proposals v)) (used_at S p v voting))
        (λ lv. votes_good v (vote_among S.terms.n (heard_proposals p.proposals v)) (used_at S p v voting) lv
        (λ L e. vote_good S p g v L (used_good S p g v voting L e)))
    makes_good v deciding = tt
    makes_good v snapping = tt

    made : GoodMade S (made_by S p block priority)
    unfolding made_by
    made = makes_good (view_of (beat_now p)) (act_at (place_in (beat_now p)))

    pub made_good : (m : Meaning) → made_by S p block priority ≡ some m → WritableMeaning S.terms.n m
    made_good m e = subst (GoodMade S) e made

-- ---- along the calls

pub fresh_good : (S : Seat) → GoodHistory S (fresh S)
fresh_good S = record {
  heard = λ m i. absurd (Memᴰ.not-nil i);
  proposals = λ o i. absurd (Memᴰ.not-nil i);
  priorities = λ o i. absurd (Memᴰ.not-nil i);
}

pub file_good : (S : Seat) (p : History) (m : Meaning) → WritableMeaning S.terms.n m → GoodHistory S p → GoodHistory S (file p m)
unfolding file
file_good S p (log_message c) w g = record {
  heard = λ m i. elim (Memᴰ.cases_cons i) [ inl e ↦ subst (Writable S.terms.n) (sym e) w | inr j ↦ g.heard m j ];
  proposals = g.proposals;
  priorities = g.priorities;
}
file_good S p (proposal_message c priority) w g = record {
  heard = g.heard;
  proposals = λ o i. elim (Memᴰ.cases_cons i) [
    | inl e ↦ subst (λ (x : ProposalHeard). Writable S.terms.n x.content) (sym e) w.0
    | inr j ↦ g.proposals o j
  ];
  priorities = λ o i. elim (Memᴰ.cases_cons i) [
    | inl e ↦ subst (λ (x : ProposalHeard). x.priority < 2 ^ 64) (sym e) w.1
    | inr j ↦ g.priorities o j
  ];
}

file_read_good : (S : Seat) (p : History) (r : Parsed) → ((m : Meaning) → r ≡ means m → WritableMeaning S.terms.n m) → GoodHistory S p
    → GoodHistory S (file_read p r)
file_read_good S p (refused k) w g = g
file_read_good S p (means m) w g = file_good S p m (w m refl) g

file_made_good : (S : Seat) (p : History) (o : Option Meaning) → GoodMade S o → GoodHistory S p → GoodHistory S (file_made p o)
file_made_good S p none w g = g
file_made_good S p (some m) w g = file_good S p m w g

-- a call that is accepted; a message received is within the limits once it can be read
good_accepted : (S : Seat) (p : History) (c : Call) → S.own < S.terms.n → Typed c → GoodHistory S p → GoodHistory S (accepted S p c)
unfolding accepted
good_accepted S p (begin b) lo t g = record { heard = g.heard; proposals = g.proposals; priorities = g.priorities }
good_accepted S p (receive bytes) lo t g =
    file_read_good S p (read_of S.terms.n bytes) (λ m e. read_writable S.terms.n bytes m t.0 e) g
good_accepted S p (act block priority out) lo t g =
    file_made_good S (closed p (made_by S p block priority) (decided_by S p)) (made_by S p block priority)
    (made S block priority lo t.0 t.1 t.2 p g)
    (record { heard = g.heard; proposals = g.proposals; priorities = g.priorities })
good_accepted S p (find e) lo t g = g

-- every call, and every list of calls
step_good : (S : Seat) (p : History) (c : Call) → S.own < S.terms.n → Typed c → GoodHistory S p → GoodHistory S (step S p c)
unfolding step
step_good S p c lo t g = go (refusal S p c)
  where
    go : (r : Option ℕ) → GoodHistory S (or_accepted r p (accepted S p c))
    go none = good_accepted S p c lo t g
    go (some k) = g

from_good : (S : Seat) (p : History) (cs : List Call) → S.own < S.terms.n → AllTyped cs → GoodHistory S p
    → GoodHistory S (after_from S p cs)
unfolding after_from
from_good S p [] lo t g = g
from_good S p (c ∷ cs) lo t g = from_good S (step S p c) cs lo t.1 (step_good S p c lo t.0 g)

pub after_good : (S : Seat) (cs : List Call) → S.own < S.terms.n → AllTyped cs → GoodHistory S (after S cs)
unfolding after
after_good S cs lo t = from_good S (fresh S) cs lo t (fresh_good S)
