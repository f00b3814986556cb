-- What is kept of one sender's messages of a kind in a view, and the answer to one more (document 01, "Receive"): one rule for LOGs and
-- PROPOSALs, tied to the record by KeptLaws. Assumes nothing.
use Rattle.std.specs.Prelude.{ℕ, ◌^◌, ◌<◌, Bool, true, false, not, ◌&&◌, List, ◌≡◌, eqb, length, get_or}
use Rattle.std.proofs.Math.Option.{Option, some, none}
use Rattle.message.specs.Choice.{pick}
use Rattle.message.specs.Logs.{Log, same_log}
use Rattle.message.specs.Message.{log_in}
use Rattle.agreement.specs.Limits.{most_senders}
use Rattle.agreement.specs.Sets.{member, is_yes}
use Rattle.agreement.specs.Record.{Agreement, is_voter, is_equivocator, filed_log}
use Rattle.agreement.specs.Filing.{Word, first, second, known, unfit}
use Rattle.agreement.specs.Proposals.{Proposals}
use Rattle.agreement.specs.declared.Snapshot.{Snapshot}

-- no message yet; one; or that two differed, and then the sender's later ones do not matter
pub data Kept (A : Type 0) : Type 0 where
  nothing : Kept A
  only : A → Kept A
  differing : Kept A

-- the answer to x
unfoldable pub word_on : {A : Type 0} → (A → A → Bool) → Kept A → A → Word
word_on same nothing x = first
word_on same (only a) x = pick (same x a) known second
word_on same differing x = known

-- what is kept after x
unfoldable pub keep : {A : Type 0} → (A → A → Bool) → Kept A → A → Kept A
keep same nothing x = only x
keep same (only a) x = pick (same x a) (only a) differing
keep same differing x = differing

-- the sender is heard: of S
abbrev pub heard_of : {A : Type 0} → Kept A → Bool
heard_of nothing = false
heard_of (only a) = true
heard_of differing = true

-- and of one message only: of V
abbrev pub single_of : {A : Type 0} → Kept A → Bool
single_of nothing = false
single_of (only a) = true
single_of differing = false

-- that message
abbrev pub only_of : {A : Type 0} → Kept A → Option A
only_of nothing = none
only_of (only a) = some a
only_of differing = none

-- x is that message
abbrev pub is_only : {A : Type 0} → (A → A → Bool) → Kept A → A → Bool
is_only same nothing x = false
is_only same (only a) x = same x a
is_only same differing x = false

-- ---- as a record keeps it

-- of sender i's LOGs
unfoldable pub kept_log : List ℕ → List ℕ → ℕ → Agreement → ℕ → Kept Log
kept_log names counts base g i =
    pick (is_equivocator g i) differing (pick (is_voter g i) (only (filed_log names counts base g.lengths i)) nothing)

-- the log in s is the only one of sender i's LOGs; no, where nothing can be filed
abbrev pub is_vote_in : Agreement → List ℕ → List ℕ → ℕ → List ℕ → ℕ → Bool
is_vote_in g names counts base s i = not (unfit names counts base s i) && is_only same_log (kept_log names counts base g i) (log_in s)

-- a proposal: its log and its priority
pub record Proposed : Type 0 where
  pub log : Log
  pub priority : ℕ

abbrev pub same_proposal : Proposed → Proposed → Bool
same_proposal a b = same_log a.log b.log && eqb a.priority b.priority

-- of sender i's PROPOSALs
unfoldable pub kept_proposal : List ℕ → List ℕ → ℕ → Proposals → ℕ → Kept Proposed
kept_proposal names counts base g i =
    pick (member g.marks.aside i) differing
    (pick (member g.marks.filed i)
    (only (record { log = filed_log names counts base g.lengths i; priority = get_or g.priorities i 0 })) nothing)

-- a snapshot as a record keeps it
abbrev pub snapshot_in : Snapshot → Option (ℕ → Bool)
snapshot_in s = pick (is_yes s.taken) (some (member s.senders)) none

-- ---- a record's arrays have a place for each of 32 senders, and its sets no other sender, as the code's types say

pub record Sized (g : Agreement) : Type 0 where
  pub lengths : length g.lengths ≡ most_senders
  pub voters : g.marks.voters < 2 ^ most_senders
  pub equivocators : g.marks.equivocators < 2 ^ most_senders

pub record SizedProposals (g : Proposals) : Type 0 where
  pub lengths : length g.lengths ≡ most_senders
  pub priorities : length g.priorities ≡ most_senders
  pub filed : g.marks.filed < 2 ^ most_senders
  pub aside : g.marks.aside < 2 ^ most_senders

-- ---- all but what is kept of the senders is the same: the view and the snapshots

pub record SameRest (g h : Agreement) : Type 0 where
  pub view : h.marks.view ≡ g.marks.view
  pub one : h.marks.one ≡ g.marks.one
  pub two : h.marks.two ≡ g.marks.two
