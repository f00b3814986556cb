-- The proposals of a view, and the vote (document 01, "Receive" and "Calendar of acts"). Assumes nothing.
use Rattle.std.specs.Prelude.{ℕ, zero, suc, ◌≤◌, ◌<◌, Bool, true, false, not, ◌&&◌, ◌||◌, List, ◌⊎◌, ◌≡◌, eqb, ltb, get_or, set, replicate, Some, None}
use Rattle.std.specs.Prelude as std
use Rattle.std.proofs.Math.Option.{Option, some, none}
use Rattle.message.specs.Choice.{pick}
use Rattle.message.specs.Numbers.{put}
use Rattle.message.specs.Logs.{same_log, names_of, counts_of}
use Rattle.message.specs.Message.{count_in, log_in}
use Rattle.message.specs.Store.{prefix_at}
use Rattle.agreement.specs.Limits.{most_senders, place_of}
use Rattle.agreement.specs.Sets.{member, adding}
use Rattle.agreement.specs.Record.{filed_log, lacks_room}
use Rattle.agreement.specs.Filing.{Word, first, second, known, word_of, unfit}
use Rattle.agreement.specs.declared.Shown.{Shown}
use Rattle.agreement.specs.declared.Answer.{Answer}
use Rattle.agreement.specs.declared.Given.{Given}

-- the code's numbers, and beside them the blocks and the priority of each sender's proposal
pub record Proposals : Type 0 where
  pub marks : Shown
  pub lengths : List ℕ
  pub priorities : List ℕ

abbrev pub proposals_from : Shown → List ℕ → List ℕ → Proposals
proposals_from m lengths priorities = record { marks = m; lengths = lengths; priorities = priorities }

-- nothing filed
abbrev pub empty_shown : ℕ → Shown
empty_shown v = record { view = v; filed = 0; aside = 0 }

abbrev pub empty_proposals : ℕ → Proposals
empty_proposals v = proposals_from (empty_shown v) (replicate most_senders 0) (replicate most_senders 0)

-- ---- filing

-- a proposal of sender i is filed
abbrev pub shown_once : Shown → ℕ → Shown
shown_once m i = record { view = m.view; filed = adding m.filed i; aside = m.aside }

-- two of sender i differed
abbrev pub shown_twice : Shown → ℕ → Shown
shown_twice m i = record { view = m.view; filed = m.filed; aside = adding m.aside i }

-- sender i's first proposal, of k blocks
abbrev pub with_proposal : Proposals → ℕ → ℕ → ℕ → Proposals
with_proposal g i k priority = proposals_from (shown_once g.marks i) (set g.lengths i k) (set g.priorities i priority)

-- sender i's proposals are set aside
abbrev pub with_aside : Proposals → ℕ → Proposals
with_aside g i = proposals_from (shown_twice g.marks i) g.lengths g.priorities

-- What filing gives: the word, the proposals, and both lists.
pub record ProposalFiling : Type 0 where
  pub word : Word
  pub proposals : Proposals
  pub names : List ℕ
  pub counts : List ℕ

-- both lists stay as they are
abbrev pub unwritten_proposal : Word → Proposals → List ℕ → List ℕ → ProposalFiling
unwritten_proposal w g names counts = record { word = w; proposals = g; names = names; counts = counts }

-- One more PROPOSAL of a sender: the same again is known; "another log or another priority is second", and sets the sender's proposals
-- aside.
abbrev pub proposal_again_of : Proposals → List ℕ → List ℕ → ℕ → List ℕ → ℕ → ℕ → ProposalFiling
proposal_again_of g names counts base s i priority =
    pick (same_log (log_in s) (filed_log names counts base g.lengths i) && eqb priority (get_or g.priorities i 0))
    (unwritten_proposal known g names counts)
    (unwritten_proposal second (with_aside g i) names counts)

-- The first PROPOSAL of a sender: filed at its place.
abbrev pub first_proposal_of : Proposals → List ℕ → List ℕ → ℕ → List ℕ → ℕ → ℕ → ProposalFiling
first_proposal_of g names counts base s i priority = record {
  word = first;
  proposals = with_proposal g i (count_in s) priority;
  names = put names (place_of base i) (names_of (log_in s));
  counts = put counts (place_of base i) (counts_of (log_in s));
}

-- The PROPOSAL s from sender i, of this priority, among the proposals whose logs stand from `base` on: filed as a LOG is.
unfoldable pub file_proposal_of : Proposals → List ℕ → List ℕ → ℕ → List ℕ → ℕ → ℕ → ProposalFiling
file_proposal_of g names counts base s i priority =
    pick (unfit names counts base s i || member g.marks.aside i) (unwritten_proposal known g names counts)
    (pick (member g.marks.filed i) (proposal_again_of g names counts base s i priority)
    (first_proposal_of g names counts base s i priority))

-- A call answered and left record and lists so.
pub record FilesProposal (t : ProposalFiling) (r : Given Answer Shown) (lengths priorities names counts : List ℕ) : Type 0 where
  pub answered : word_of r.answer ≡ t.word
  pub marks : r.after ≡ t.proposals.marks
  pub length_list : lengths ≡ t.proposals.lengths
  pub priority_list : priorities ≡ t.proposals.priorities
  pub name_list : names ≡ t.names
  pub count_list : counts ≡ t.counts

-- ---- the vote

-- Sender i's proposal may be voted for: it "has the lock as a prefix and isn't set aside". The lock is the log of k blocks at place a.
abbrev pub fits : List ℕ → List ℕ → ℕ → Proposals → ℕ → ℕ → ℕ → Bool
fits names counts base g a k i =
    member g.marks.filed i && (not (member g.marks.aside i) && prefix_at names counts a k (place_of base i) (get_or g.lengths i 0))

-- the better of two senders by priority, the first of them on a tie
abbrev pub better : (ℕ → ℕ) → Option ℕ → ℕ → Option ℕ
better priority none i = some i
better priority (some j) i = some (pick (ltb (priority j) (priority i)) i j)

abbrev pub if_fits : Bool → (ℕ → ℕ) → Option ℕ → ℕ → Option ℕ
if_fits true priority o i = better priority o i
if_fits false priority o i = o

-- of the senders below n that pass the test, the one "of highest priority, .. lower bench number on a tie"; none where none passes
unfoldable pub best_of : ℕ → (ℕ → Bool) → (ℕ → ℕ) → Option ℕ
best_of zero p priority = none
best_of (suc n) p priority = if_fits (p n) priority (best_of n p priority) n

-- ---- what the best is, apart from how it is found (ChoiceLaws: best_is)

-- sender i is at least as good as j: of higher priority, or of the same and not of a higher number
abbrev pub NotBelow : (ℕ → ℕ) → ℕ → ℕ → Type 0
NotBelow q i j = (q j < q i) ⊎ ((q j ≡ q i) × (i ≤ j))

-- i passes the test, and no sender that passes it is better
pub record Best (n : ℕ) (p : ℕ → Bool) (q : ℕ → ℕ) (i : ℕ) : Type 0 where
  pub below : i < n
  pub passes : p i ≡ true
  pub top : (j : ℕ) → j < n → p j ≡ true → NotBelow q i j

-- ---- the sender voted for

-- The sender whose proposal is voted for, or none: then the vote is for the lock. Lists without room for the proposals hold none.
unfoldable pub choice_of : List ℕ → List ℕ → ℕ → Proposals → ℕ → ℕ → Option ℕ
choice_of names counts base g a k =
    pick (lacks_room names counts base) none (best_of most_senders (fits names counts base g a k) (λ (i : ℕ). get_or g.priorities i 0))

-- the code's answer: whose proposal, or the lock
abbrev pub chosen : std.Option ℕ → Option ℕ
chosen (Some i) = some i
chosen None = none

-- a sender that is chosen has a place in the record
abbrev pub HasPlace : std.Option ℕ → Type 0
HasPlace (Some i) = i < most_senders
HasPlace None = Unit {0}

-- A call answered so.
pub record Chooses (o : Option ℕ) (r : std.Option ℕ) : Type 0 where
  pub sender : chosen r ≡ o
  pub place : HasPlace r
