-- Where a log that is read comes from: a log with a grade is a prefix of a sender's log, a vote is the lock or a proposal that extends it,
-- and what is kept of a sender is one of its messages. Assumes nothing.
use Prim.Native.Nat.{ℕ, ◌<◌}
use mathlib.Core.Bool.{Bool, true, false, ◌&&◌, false≢true, and-eq-true_iff}
use mathlib.Core.List.Memᴰ
use mathlib.Core.List.{List, [], ◌∷◌, Memᴰ}
use mathlib.Core.Logic.{◌⊎◌, inl, inr}
use mathlib.Core.Option.{Option, some, none, none-ne-some}
use mathlib.Core.Path.{◌≡◌, refl, sym, ap, ◌∙◌}
use borrow.Author.Tests.{eqb-true}
use lib.Dec.{eqb}
use Rattle.message.specs.Choice.{pick}
use Rattle.message.specs.Logs.{Log, Prefix, same_log}
use Rattle.message.specs.Message.{Content}
use Rattle.message.proofs.TestLaws.{either}
use Rattle.message.proofs.LogLaws.{prefix_refl, is_prefix_iff}
use Rattle.agreement.specs.Sets.{Inside}
use Rattle.agreement.specs.Reading.{may_support, longest}
use Rattle.agreement.specs.Kept.{Kept, nothing, only, differing, heard_of, single_of, Proposed, same_proposal}
use Rattle.agreement.specs.Heard.{some_differs, kept_of, logs_from, heard_logs, only_log, reading_from, grade_now, grade_with, ProposalHeard}
use Rattle.agreement.specs.Heard.{proposals_from, heard_proposals, may_choose, priority_of, proposed_log, or_lock, vote_among}
use Rattle.agreement.specs.Proposals.{best_of}
use Rattle.agreement.proofs.ReadingLaws.{may_iff, grade_supporter}
use Rattle.agreement.proofs.LongestLaws.{longest_iff}
use Rattle.agreement.proofs.ChoiceLaws.{best_is}

-- ---- grades

-- a sender below n in V, whose log extends L
pub record GradeSource (n : ℕ) (logs : ℕ → Kept Log) (L : Log) : Type 0 where
  pub sender : ℕ
  pub below : sender < n
  pub log : Log
  pub kept : logs sender ≡ only log
  pub extends : Prefix L log

pub single_heard : {A : Type 0} (k : Kept A) → single_of k ≡ true → heard_of k ≡ true
single_heard nothing e = e
single_heard (only a) e = refl
single_heard differing e = refl

single_only : (k : Kept Log) → single_of k ≡ true → k ≡ only (only_log k)
single_only nothing e = absurd (false≢true e)
single_only (only L) e = refl
single_only differing e = absurd (false≢true e)

module _ (n : ℕ) (w : ℕ → ℕ) (logs : ℕ → Kept Log) where
  -- everyone who may support is heard
  pub reading_heard : (snap : ℕ → Bool) → Inside n (may_support (reading_from logs snap)) (reading_from logs snap).heard
  reading_heard snap i l e = single_heard (logs i) ((may_iff (reading_from logs snap) i).0 e).0

  longest_source : (snap : ℕ → Bool) (L : Log) → longest n w (reading_from logs snap) ≡ some L → GradeSource n logs L
  longest_source snap L e =
      let R = reading_from logs snap in
      let s = grade_supporter n w R L ((longest_iff n w R (reading_heard snap) (some L)).0 e).grade in
      record {
        sender = s.sender;
        below = s.below;
        log = only_log (logs s.sender);
        kept = single_only (logs s.sender) ((may_iff R s.sender).0 s.may).0;
        extends = s.extends;
      }

  pub grade_now_source : (L : Log) → grade_now n w logs ≡ some L → GradeSource n logs L
  unfolding grade_now
  grade_now_source L e = longest_source (λ (s : ℕ). single_of (logs s)) L e

  pub grade_with_none : grade_with n w logs none ≡ none
  unfolding grade_with
  grade_with_none = refl

  pub grade_with_source : (o : Option (ℕ → Bool)) (L : Log) → grade_with n w logs o ≡ some L → GradeSource n logs L
  unfolding grade_with
  grade_with_source none L e = absurd (none-ne-some L e)
  grade_with_source (some snap) L e = longest_source snap L e

-- ---- the vote

-- a sender below n whose one proposal extends the lock and is voted for
pub record VoteSource (n : ℕ) (kept : ℕ → Kept Proposed) (L : Log) : Type 0 where
  pub sender : ℕ
  pub below : sender < n
  pub proposal : Proposed
  pub its : kept sender ≡ only proposal
  pub voted : vote_among n kept L ≡ proposal.log
  pub extends : Prefix L proposal.log

-- what may be chosen
record Chosen (k : Kept Proposed) (L : Log) : Type 0 where
  proposal : Proposed
  its : k ≡ only proposal
  extends : Prefix L proposal.log

may_chosen : (k : Kept Proposed) (L : Log) → may_choose L k ≡ true → Chosen k L
may_chosen nothing L e = absurd (false≢true e)
may_chosen (only a) L e = record { proposal = a; its = refl; extends = (is_prefix_iff L a.log).0 e }
may_chosen differing L e = absurd (false≢true e)

module _ (n : ℕ) (kept : ℕ → Kept Proposed) (L : Log) where
  -- the lock, or a proposal
  pub vote_from : (vote_among n kept L ≡ L) ⊎ VoteSource n kept L
  unfolding vote_among
  vote_from = go (best_of n (λ (s : ℕ). may_choose L (kept s)) (λ (s : ℕ). priority_of (kept s))) refl
    where
      go : (o : Option ℕ) → best_of n (λ (s : ℕ). may_choose L (kept s)) (λ (s : ℕ). priority_of (kept s)) ≡ o
          → (vote_among n kept L ≡ L) ⊎ VoteSource n kept L
      go none e = inl (ap (or_lock kept L) e)
      go (some i) e =
          let b = best_is (λ (s : ℕ). may_choose L (kept s)) (λ (s : ℕ). priority_of (kept s)) n i e in
          let c = may_chosen (kept i) L b.passes in
          inr (record {
            sender = i;
            below = b.below;
            proposal = c.proposal;
            its = c.its;
            voted = ap (or_lock kept L) e ∙ ap proposed_log c.its;
            extends = c.extends;
          })

  -- a vote extends the lock
  pub vote_extends : Prefix L (vote_among n kept L)
  vote_extends = elim vote_from [ inl e ↦ rw e (prefix_refl L) | inr s ↦ rw s.voted s.extends ]

-- ---- what is kept of a sender

kept_in : {A : Type 0} (same : A → A → Bool) (xs : List A) (a : A) → kept_of same xs ≡ only a → Memᴰ a xs
unfolding kept_of
kept_in same [] a e = absurd (false≢true (ap single_of e))
kept_in {A} same (x ∷ xs) a e =
    either (some_differs same x xs)
    (λ t. absurd (false≢true (ap single_of (rw t at e))))
    (λ t. Memᴰ.head (sym (ap whole (rw t at e))))
  where
    whole : Kept A → A
    whole nothing = x
    whole (only b) = b
    whole differing = x

-- an element of a list that starts with m where t holds: m, or one of the rest
first_or : {A : Type 0} (t : Bool) (m x : A) (xs : List A) → Memᴰ x (pick t (m ∷ xs) xs) → ((t ≡ true) × (x ≡ m)) ⊎ Memᴰ x xs
first_or true m x xs i = elim (Memᴰ.cases_cons i) [ inl e ↦ inl (refl, e) | inr j ↦ inr j ]
first_or false m x xs i = inr i

-- the LOG of sender s in view v with log L
abbrev pub log_by : ℕ → ℕ → Log → Content
log_by s v L = record { sender = s; view = v; log = L }

-- a log among a sender's of a view is that of a LOG heard
pub logs_mem : (heard : List Content) (v s : ℕ) (L : Log) → Memᴰ L (logs_from heard v s) → Memᴰ (log_by s v L) heard
unfolding logs_from
logs_mem [] v s L i = absurd (Memᴰ.not-nil i)
logs_mem (m ∷ ms) v s L i = elim (first_or (eqb m.view v && eqb m.sender s) m.log L (logs_from ms v s) i) [
  | inl e ↦
      let b = (and-eq-true_iff (eqb m.view v) (eqb m.sender s)).0 e.0 in
      let x = sym (eqb-true m.sender s b.1) in
      let y = sym (eqb-true m.view v b.0) in
      let z = e.1 in
      Memᴰ.head (λ k. record { sender = x k; view = y k; log = z k })
  | inr j ↦ Memᴰ.tail (logs_mem ms v s L j)
]

-- the one log of a sender likewise
pub heard_source : (heard : List Content) (v s : ℕ) (L : Log) → heard_logs heard v s ≡ only L → Memᴰ (log_by s v L) heard
heard_source heard v s L e = logs_mem heard v s L (kept_in same_log (logs_from heard v s) L e)

-- a PROPOSAL of view v that bears sender s's number
pub record ProposalSource (heard : List ProposalHeard) (v s : ℕ) (a : Proposed) : Type 0 where
  pub message : ProposalHeard
  pub among : Memᴰ message heard
  pub view : message.content.view ≡ v
  pub sender : message.content.sender ≡ s
  pub log : message.content.log ≡ a.log
  pub priority : message.priority ≡ a.priority

proposals_source : (heard : List ProposalHeard) (v s : ℕ) (a : Proposed) → Memᴰ a (proposals_from heard v s)
    → ProposalSource heard v s a
unfolding proposals_from
proposals_source [] v s a i = absurd (Memᴰ.not-nil i)
proposals_source (m ∷ ms) v s a i =
    elim (first_or (eqb m.content.view v && eqb m.content.sender s) (record { log = m.content.log; priority = m.priority }) a
    (proposals_from ms v s) i) [
      | inl e ↦
          let b = (and-eq-true_iff (eqb m.content.view v) (eqb m.content.sender s)).0 e.0 in
          record {
            message = m;
            among = Memᴰ.head refl;
            view = eqb-true m.content.view v b.0;
            sender = eqb-true m.content.sender s b.1;
            log = ap (λ (x : Proposed). x.log) (sym e.1);
            priority = ap (λ (x : Proposed). x.priority) (sym e.1);
          }
      | inr j ↦
          let x = proposals_source ms v s a j in
          record {
            message = x.message;
            among = Memᴰ.tail x.among;
            view = x.view;
            sender = x.sender;
            log = x.log;
            priority = x.priority;
          }
    ]

-- the one proposal of a sender is that of a PROPOSAL heard
pub proposed_source : (heard : List ProposalHeard) (v s : ℕ) (a : Proposed) → heard_proposals heard v s ≡ only a → ProposalSource heard v s a
proposed_source heard v s a e = proposals_source heard v s a (kept_in same_proposal (proposals_from heard v s) a e)
