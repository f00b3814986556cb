-- The starred schedules (document 01, "Schedules small enough to draw") and some more: one table, computed. Assumes nothing.
use Prim.Native.Nat.{ℕ, ◌+◌}
use mathlib.Core.Path.{◌≡◌, refl}
use mathlib.Core.List.{List, [], ◌∷◌, ◌++◌, map}
use mathlib.Core.Option.{Option, some, none}
use lib.ListN.{length, replicate}
use Rattle.message.specs.Limits.{most_blocks}
use Rattle.message.specs.Numbers.{part, put, number_at, numbers_at, bytes_for, bytes_for_each}
use Rattle.message.specs.Logs.{Log, is_prefix, same_log, in_step, names_of, counts_of}
use Rattle.message.specs.Message.{log_message, proposal_message, message_bytes, bytes_of}
use Rattle.message.specs.Store.{log_at, prefix_at}
use Rattle.agreement.specs.Limits.{span}
use Rattle.agreement.specs.Sets.{weigh, member, adding, removing}
use Rattle.agreement.specs.Reading.{may_support, supports, has_grade, under, prefixes, candidates, longer, longest_of, longest}
use Rattle.agreement.specs.Record.{empty_agreement, filed_log, overlong, with_snapshot}
use Rattle.agreement.specs.Record as record_of
use Rattle.agreement.specs.Filing.{Word, first, second, known, Filing, file_of}
use Rattle.agreement.specs.Grades.{grade_among, grade_of}
use Rattle.agreement.specs.Proposals.{empty_proposals, ProposalFiling, file_proposal_of, best_of, choice_of}

-- ---- what happens in a row

-- in an agreement: a LOG from this sender; snapshot one, or two, is taken
pub data Step : Type 0 where
  log : ℕ → Log → Step
  one two : Step

-- among the proposals of a view: a PROPOSAL from this sender, of this priority
pub data Sent : Type 0 where
  proposal : ℕ → Log → ℕ → Sent

-- A row: what happens, and what is then found.
pub data Row : Type 0 where
  -- the longest log with the grade
  grade0 grade1 grade2 : List Step → Option Log → Row
  -- the answer to the last LOG, or to the last PROPOSAL
  answers : List Step → Word → Row
  answers_proposal : List Sent → Word → Row
  -- with this lock: whose proposal is voted for, none for the lock, and the log of the vote
  votes : Log → List Sent → Option ℕ → Log → Row

-- ---- how it is worked out, by the definitions that the code is held to

-- Nothing is filed at first; the lists have 2,048 places.
abbrev step : Filing → Step → Filing
step t (log s L) = file_of t.agreement t.names t.counts 0 (bytes_of (log_message (record { sender = s; view = 0; log = L }))) s
step t one = record { word = t.word; agreement = with_snapshot record_of.one t.agreement; names = t.names; counts = t.counts }
step t two = record { word = t.word; agreement = with_snapshot record_of.two t.agreement; names = t.names; counts = t.counts }

abbrev steps : Filing → List Step → Filing
steps t [] = t
steps t (s ∷ ss) = steps (step t s) ss

abbrev pub after : List Step → Filing
after ss = steps (record { word = known; agreement = empty_agreement 0; names = replicate span 0; counts = replicate span 0 }) ss

-- The lock stands past the proposals.
abbrev filing : ProposalFiling → Sent → ProposalFiling
filing t (proposal s L priority) =
    file_proposal_of t.proposals t.names t.counts 0
    (bytes_of (proposal_message (record { sender = s; view = 0; log = L }) priority)) s priority

abbrev filings : ProposalFiling → List Sent → ProposalFiling
filings t [] = t
filings t (o ∷ os) = filings (filing t o) os

abbrev after_proposals : Log → List Sent → ProposalFiling
after_proposals lock os =
    filings
    (record {
      word = known;
      proposals = empty_proposals 0;
      names = put (replicate (span + most_blocks) 0) span (names_of lock);
      counts = put (replicate (span + most_blocks) 0) span (counts_of lock);
    })
    os

abbrev voted_log : Log → ProposalFiling → Option ℕ → Log
voted_log lock t none = log_at t.names t.counts span (length lock)
voted_log lock t (some i) = filed_log t.names t.counts 0 t.proposals.lengths i

-- What is found.
pub data Finding : Type 0 where
  grade : Option Log → Finding
  word : Word → Finding
  vote : Option ℕ → Log → Finding

abbrev vote_in : Log → ProposalFiling → Option ℕ → Finding
vote_in lock t o = vote o (voted_log lock t o)

abbrev pub worked : Row → Finding
worked (grade0 ss o) = let t = after ss in grade (grade_of t.names t.counts 0 t.agreement 0)
worked (grade1 ss o) = let t = after ss in grade (grade_of t.names t.counts 0 t.agreement 1)
worked (grade2 ss o) = let t = after ss in grade (grade_of t.names t.counts 0 t.agreement 2)
worked (answers ss w) = word (after ss).word
worked (answers_proposal os w) = word (after_proposals [] os).word
worked (votes lock os i L) = let t = after_proposals lock os in
    vote_in lock t (choice_of t.names t.counts 0 t.proposals span (length lock))

abbrev pub stated : Row → Finding
stated (grade0 ss o) = grade o
stated (grade1 ss o) = grade o
stated (grade2 ss o) = grade o
stated (answers ss w) = word w
stated (answers_proposal os w) = word w
stated (votes lock os i L) = vote i L

-- ---- logs, and an equivocator

-- blocks by name, counts all 1
abbrev blocks : List ℕ → Log
blocks xs = map (λ (x : ℕ). record { name = x; count = 1 }) xs

abbrev l5 : Log
l5 = blocks (5 ∷ [])

abbrev l7 : Log
l7 = blocks (7 ∷ [])

abbrev l56 : Log
l56 = blocks (5 ∷ 6 ∷ [])

abbrev l57 : Log
l57 = blocks (5 ∷ 7 ∷ [])

-- [5] with another count
abbrev l5' : Log
l5' = record { name = 5; count = 2 } ∷ []

-- the sender of [5] and of [7]
abbrev both : ℕ → List Step
both s = log s l5 ∷ log s l7 ∷ []

-- ---- the rows

abbrev pub rows : List Row
rows =
    -- Grade 0, starred (the rows with *). * all three extend [5], one alone goes further
    grade0 (log 0 l5 ∷ log 1 l5 ∷ log 2 l56 ∷ []) (some l5)
    -- * two against two: only the empty log has a majority
    ∷ grade0 (log 0 l5 ∷ log 1 l5 ∷ log 2 l7 ∷ log 3 l7 ∷ []) (some [])
    -- * one voter among three equivocators, who count as heard
    ∷ grade0 (log 0 l5 ∷ both 1 ++ (both 2 ++ both 3)) none
    -- * nobody heard
    ∷ grade0 [] none
    -- * three voters, one equivocator: three of four
    ∷ grade0 (log 0 l5 ∷ log 1 l5 ∷ log 2 l5 ∷ both 3) (some l5)
    -- * two voters, two equivocators: half is not enough
    ∷ grade0 (log 0 l5 ∷ log 1 l5 ∷ both 2 ++ both 3) none
    -- Grade 1. * two of three are in the snapshot, ..
    ∷ grade1 (log 0 l5 ∷ log 1 l5 ∷ two ∷ log 2 l5 ∷ []) (some l5)
    -- * .. or one only
    ∷ grade1 (log 0 l5 ∷ two ∷ log 1 l5 ∷ log 2 l5 ∷ []) none
    -- * all three were in it, but one is an equivocator since: two of three still
    ∷ grade1 (log 0 l5 ∷ log 1 l5 ∷ log 2 l5 ∷ two ∷ log 2 l7 ∷ []) (some l5)
    -- The vote. * the highest priority does not extend the lock, and the next is a tie, ..
    ∷ votes l5 (proposal 0 l56 9 ∷ proposal 1 l57 9 ∷ proposal 2 (blocks (8 ∷ [])) 20 ∷ []) (some 0) l56
    -- * .. or the lower bench of the tie is set aside
    ∷ votes l5 (proposal 0 l56 9 ∷ proposal 1 l57 9 ∷ proposal 2 (blocks (8 ∷ [])) 20 ∷ proposal 0 l5 9 ∷ []) (some 1) l57
    -- From here on, rows that document 01 does not have. The same name with another count is another block.
    ∷ grade0 (log 0 l5 ∷ log 1 l5' ∷ []) (some [])
    -- a prefix that no sender sent whole
    ∷ grade0 (log 0 l56 ∷ log 1 l57 ∷ []) (some l5)
    -- the empty log is a log: its sender is heard, and supports it
    ∷ grade0 (log 0 [] ∷ []) (some [])
    -- grade 0 looks at no snapshot
    ∷ grade0 (log 0 l5 ∷ two ∷ log 1 l5 ∷ []) (some l5)
    -- the last sender counts like any other
    ∷ grade0 (log 30 l7 ∷ log 31 l5 ∷ []) (some [])
    ∷ grade0 (log 31 l5 ∷ []) (some l5)
    -- a log of 64 blocks leaves its neighbour's as it is
    ∷ grade0 (log 1 l5 ∷ log 2 l5 ∷ log 0 (replicate most_blocks (record { name = 7; count = 1 })) ∷ []) (some l5)
    ∷ grade0 (log 0 (replicate most_blocks (record { name = 7; count = 1 })) ∷ [])
    (some (replicate most_blocks (record { name = 7; count = 1 })))
    -- Which snapshot serves which grade. Snapshot one only: no grade 1, ..
    ∷ grade1 (log 0 l5 ∷ log 1 l5 ∷ one ∷ []) none
    ∷ grade2 (log 0 l5 ∷ log 1 l5 ∷ one ∷ []) (some l5)
    -- .. snapshot two only: no grade 2
    ∷ grade1 (log 0 l5 ∷ log 1 l5 ∷ two ∷ []) (some l5)
    ∷ grade2 (log 0 l5 ∷ log 1 l5 ∷ two ∷ []) none
    -- both, and they differ: one is {0,1}, two is {0,1,2}
    ∷ grade0 (log 0 l5 ∷ log 1 l56 ∷ one ∷ log 2 l56 ∷ two ∷ []) (some l56)
    ∷ grade1 (log 0 l5 ∷ log 1 l56 ∷ one ∷ log 2 l56 ∷ two ∷ []) (some l56)
    ∷ grade2 (log 0 l5 ∷ log 1 l56 ∷ one ∷ log 2 l56 ∷ two ∷ []) (some l5)
    -- a snapshot taken when nobody was heard has nobody in it
    ∷ grade2 (one ∷ log 0 l5 ∷ []) none
    -- a snapshot taken again: the later one stands
    ∷ grade2 (log 0 l5 ∷ one ∷ log 1 l5 ∷ []) none
    ∷ grade2 (log 0 l5 ∷ one ∷ log 1 l5 ∷ one ∷ []) (some l5)
    -- Equivocation after a snapshot that has the sender in it: it no longer supports, and is heard.
    ∷ grade1 (log 0 l5 ∷ log 1 l5 ∷ two ∷ log 1 l7 ∷ []) none
    ∷ grade2 (log 0 l5 ∷ log 1 l5 ∷ one ∷ log 1 l7 ∷ []) none
    -- an equivocator from before the snapshot is heard as well
    ∷ grade1 (log 0 l5 ∷ both 1 ++ (two ∷ [])) none
    ∷ grade2 (log 0 l5 ∷ both 1 ++ (one ∷ [])) none
    -- The answers to a LOG.
    ∷ answers (log 0 l5 ∷ []) first
    ∷ answers (log 0 l5 ∷ log 1 l5 ∷ []) first
    ∷ answers (log 0 [] ∷ []) first
    -- the same again; another log, be it longer, shorter, or of another count
    ∷ answers (log 0 l5 ∷ log 0 l5 ∷ []) known
    ∷ answers (log 0 [] ∷ log 0 [] ∷ []) known
    ∷ answers (log 0 [] ∷ log 0 l5 ∷ []) second
    -- .. and the same again makes no equivocator
    ∷ grade0 (log 0 l5 ∷ log 0 l5 ∷ []) (some l5)
    ∷ answers (log 0 l5 ∷ log 0 l7 ∷ []) second
    ∷ answers (log 0 l5 ∷ log 0 l56 ∷ []) second
    ∷ answers (log 0 l5 ∷ log 0 [] ∷ []) second
    ∷ answers (log 0 l5 ∷ log 0 l5' ∷ []) second
    -- an equivocator's third log, or its first again, is known: it stays an equivocator
    ∷ answers (both 0 ++ (log 0 l56 ∷ [])) known
    ∷ answers (both 0 ++ (log 0 l5 ∷ [])) known
    ∷ grade0 (both 0 ++ (log 0 l5 ∷ [])) none
    -- The answers to a PROPOSAL: another priority is second as well.
    ∷ answers_proposal (proposal 0 l5 9 ∷ []) first
    ∷ answers_proposal (proposal 0 l5 9 ∷ proposal 0 l5 9 ∷ []) known
    ∷ answers_proposal (proposal 0 l5 9 ∷ proposal 0 l7 9 ∷ []) second
    ∷ answers_proposal (proposal 0 l5 9 ∷ proposal 0 l5 8 ∷ []) second
    ∷ answers_proposal (proposal 0 l5 9 ∷ proposal 0 l5 8 ∷ proposal 0 l5 9 ∷ []) known
    ∷ answers_proposal (proposal 0 l5 9 ∷ proposal 0 l5 8 ∷ proposal 0 l7 9 ∷ []) known
    -- More votes. A longer log does not beat a higher priority.
    ∷ votes l5 (proposal 0 (blocks (5 ∷ 6 ∷ 7 ∷ [])) 3 ∷ proposal 1 l57 4 ∷ []) (some 1) l57
    -- a tie goes to the lower number, whoever came first
    ∷ votes l5 (proposal 1 l57 9 ∷ proposal 0 l56 9 ∷ []) (some 0) l56
    ∷ votes l5 (proposal 0 l5 9 ∷ proposal 1 l56 9 ∷ []) (some 0) l5
    -- the last sender may be voted for
    ∷ votes l5 (proposal 31 l56 9 ∷ []) (some 31) l56
    -- the same proposal again sets nothing aside
    ∷ votes l5 (proposal 0 l56 9 ∷ proposal 0 l56 9 ∷ []) (some 0) l56
    -- a priority of 0 is one too, and the lock itself may be proposed
    ∷ votes l5 (proposal 3 l5 0 ∷ []) (some 3) l5
    -- the lock, where there is no proposal, or one that does not extend it: another name, too short, another count
    ∷ votes l5 [] none l5
    ∷ votes l5 (proposal 2 (blocks (8 ∷ [])) 20 ∷ []) none l5
    ∷ votes l56 (proposal 0 l5 9 ∷ []) none l56
    ∷ votes l5 (proposal 0 l5' 9 ∷ []) none l5
    -- every proposal extends the empty lock
    ∷ votes [] (proposal 0 l56 9 ∷ proposal 2 (blocks (8 ∷ [])) 20 ∷ []) (some 2) (blocks (8 ∷ []))
    -- so does an empty one, and none at all is voted for where none was made
    ∷ votes [] (proposal 0 [] 9 ∷ []) (some 0) []
    ∷ votes [] [] none []
    -- set aside for another priority, and for good
    ∷ votes l5 (proposal 0 l56 9 ∷ proposal 1 l57 8 ∷ proposal 0 l56 10 ∷ []) (some 1) l57
    ∷ votes l5 (proposal 0 l56 9 ∷ proposal 0 l57 9 ∷ proposal 0 l56 9 ∷ []) none l5
    ∷ []

-- In each row, what is worked out is what is stated.
pub rows_hold : map worked rows ≡ map stated rows
unfolding
    part put number_at numbers_at bytes_for bytes_for_each is_prefix same_log in_step names_of counts_of message_bytes bytes_of log_at prefix_at weigh
    member adding removing may_support
    supports has_grade under prefixes candidates longer longest_of longest overlong file_of grade_among file_proposal_of best_of choice_of
rows_hold = refl
