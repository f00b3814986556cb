-- One agreement by the messages heard in it, in any order and however often (document 01, "Counting in one agreement", and the words on
-- demand 3 after the calendar): who is in S, E and V, and what the vote is for. No record is asked. Assumes nothing.
use Rattle.std.specs.Prelude.{ℕ, Bool, false, not, ◌&&◌, ◌||◌, List, [], ◌∷◌, eqb}
use Rattle.std.proofs.Math.Option.{Option, some, none}
use Rattle.message.specs.Choice.{pick}
use Rattle.message.specs.Logs.{Log, is_prefix, same_log}
use Rattle.message.specs.Message.{Content, agreement_number}
use Rattle.agreement.specs.Reading.{Reading, longest}
use Rattle.agreement.specs.Kept.{Kept, nothing, only, differing, heard_of, single_of, Proposed, same_proposal}
use Rattle.agreement.specs.Proposals.{best_of}

-- ---- what one sender's messages come to

-- one of these differs from x
unfoldable pub some_differs : {A : Type 0} → (A → A → Bool) → A → List A → Bool
some_differs same x [] = false
some_differs same x (y ∷ ys) = not (same x y) || some_differs same x ys

-- no message; one, however often; or "two different" ones among these: then one of them differs from the first
unfoldable pub kept_of : {A : Type 0} → (A → A → Bool) → List A → Kept A
kept_of same [] = nothing
kept_of same (x ∷ xs) = pick (some_differs same x xs) differing (only x)

-- ---- LOGs

-- the logs of the LOGs of view v that bear sender s's number
unfoldable pub logs_from : List Content → ℕ → ℕ → List Log
logs_from [] v s = []
logs_from (m ∷ ms) v s = pick (eqb (agreement_number m) v && eqb m.sender s) (m.log ∷ logs_from ms v s) (logs_from ms v s)

-- GA v: what each sender's LOGs come to
abbrev pub heard_logs : List Content → ℕ → ℕ → Kept Log
heard_logs heard v s = kept_of same_log (logs_from heard v s)

-- V: the senders of one log only. E are those of two different logs, S both.
abbrev pub voters_of : (ℕ → Kept Log) → ℕ → Bool
voters_of logs s = single_of (logs s)

-- the log of a sender in V
abbrev pub only_log : Kept Log → Log
only_log nothing = []
only_log (only L) = L
only_log differing = []

-- what a grade reads, `among` being the snapshot that it uses
abbrev pub reading_from : (ℕ → Kept Log) → (ℕ → Bool) → Reading
reading_from logs among = record {
  heard = λ (s : ℕ). heard_of (logs s);
  single = voters_of logs;
  snap = among;
  log = λ (s : ℕ). only_log (logs s);
}

-- Of n benches, each with its weight w. Grade 0 reads no snapshot, so V as it is now.
unfoldable pub grade_now : ℕ → (ℕ → ℕ) → (ℕ → Kept Log) → Option Log
grade_now n w logs = longest n w (reading_from logs (voters_of logs))

-- Grades 1 and 2: "only with" their snapshot, which may be of nobody.
unfoldable pub grade_with : ℕ → (ℕ → ℕ) → (ℕ → Kept Log) → Option (ℕ → Bool) → Option Log
grade_with n w logs none = none
grade_with n w logs (some snapshot) = longest n w (reading_from logs snapshot)

-- ---- PROPOSALs

-- a PROPOSAL heard
pub record ProposalHeard : Type 0 where
  pub content : Content
  pub priority : ℕ

-- those of view v that bear sender s's number
unfoldable pub proposals_from : List ProposalHeard → ℕ → ℕ → List Proposed
proposals_from [] v s = []
proposals_from (m ∷ ms) v s =
    pick (eqb m.content.view v && eqb m.content.sender s)
    (record { log = m.content.log; priority = m.priority } ∷ proposals_from ms v s)
    (proposals_from ms v s)

-- what each sender's come to; those of a sender with two different ones are set aside
abbrev pub heard_proposals : List ProposalHeard → ℕ → ℕ → Kept Proposed
heard_proposals heard v s = kept_of same_proposal (proposals_from heard v s)

-- ---- the vote

-- a proposal that "has the lock as a prefix and isn't set aside"
abbrev pub may_choose : Log → Kept Proposed → Bool
may_choose lock nothing = false
may_choose lock (only a) = is_prefix lock a.log
may_choose lock differing = false

abbrev pub priority_of : Kept Proposed → ℕ
priority_of nothing = 0
priority_of (only a) = a.priority
priority_of differing = 0

abbrev pub proposed_log : Kept Proposed → Log
proposed_log nothing = []
proposed_log (only a) = a.log
proposed_log differing = []

-- the chosen sender's proposal, "else the lock"
abbrev pub or_lock : (ℕ → Kept Proposed) → Log → Option ℕ → Log
or_lock proposals lock none = lock
or_lock proposals lock (some s) = proposed_log (proposals s)

-- The log that n benches' proposals and the lock make a bench vote for (Proposals: best_of).
unfoldable pub vote_among : ℕ → (ℕ → Kept Proposed) → Log → Log
vote_among n proposals lock =
    or_lock proposals lock (best_of n (λ (s : ℕ). may_choose lock (proposals s)) (λ (s : ℕ). priority_of (proposals s)))
