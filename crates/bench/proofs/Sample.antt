-- Rolls of a bench that is alone, document 01's sample first, by the definitions that the code is held to: computed. Assumes nothing.
use Prim.Native.Nat.{ℕ}
use mathlib.Core.Bool.{Bool, true, false}
use mathlib.Core.List.{List, [], ◌∷◌, ◌++◌, map}
use mathlib.Core.Option.{Option, some, none}
use mathlib.Core.Path.{◌≡◌, refl}
use lib.ListN.{replicate}
use Rattle.message.specs.Choice as choice
use Rattle.message.specs.Limits.{most_blocks}
use Rattle.message.specs.Causes.{first_failure, judged_by}
use Rattle.message.specs.Numbers.{part, put, number_at, numbers_at, bytes_for, bytes_for_each}
use Rattle.message.specs.Logs.{Block, Log, is_prefix, same_log, in_step, names_of, counts_of}
use Rattle.message.specs.Message.{Meaning, log_message, proposal_message, message_bytes, bytes_of, malformed, meaning_in}
use Rattle.message.specs.Store.{log_at}
use Rattle.agreement.specs.Sets.{weigh, member, adding, removing, is_yes}
use Rattle.agreement.specs.Reading as reading
use Rattle.agreement.specs.Reading.{may_support, supports, has_grade, under, prefixes, candidates, longest_of, longest}
use Rattle.agreement.specs.Record.{overlong}
use Rattle.agreement.specs.Filing.{file_of}
use Rattle.agreement.specs.Grades.{grade_among}
use Rattle.agreement.specs.Proposals.{file_proposal_of, best_of}
use Rattle.agreement.specs.Kept.{kept_proposal}
use Rattle.agreement.specs.Heard.{vote_among}
use Rattle.bench.specs.Layout.{least_lent, most_bytes}
use Rattle.bench.specs.Totals.{totals_from, unlike}
use Rattle.bench.specs.Calls.{Reply, done, acted, Step, State, core_of}
use Rattle.bench.specs.Acts.{propose, vote, makes}
use Rattle.bench.specs.Record.{fresh_bench, agreement_of, proposals_of, with_agreement, any_place, beyond_agreement, beyond_proposals}
use Rattle.bench.specs.Record.{beyond}
use Rattle.bench.specs.ByRecord.{kept_agreement, kept_proposals, begin_of, file_message, receive_of, used_of, settled, snapped_by, changed}
use Rattle.bench.specs.ByRecord.{acted_of, act_of, decided_log}

-- ---- a roll

-- begin and act at a beat: offering a name, a count and a priority; with a message received between the two; or neither
pub data Event : Type 0 where
  offering : ℕ → ℕ → ℕ → ℕ → Event
  hearing : ℕ → Meaning → Event
  at : ℕ → Event

-- the answers to Begin and to Act, the decided log afterwards, and the mark
pub record Line : Type 0 where
  pub begun : Reply
  pub made : Reply
  pub decided : Log
  pub parted : Bool

abbrev beat_in : Event → ℕ
beat_in (offering beat name count priority) = beat
beat_in (hearing beat m) = beat
beat_in (at beat) = beat

abbrev block_in : Event → Block
block_in (offering beat name count priority) = record { name = name; count = count }
block_in (hearing beat m) = record { name = 0; count = 0 }
block_in (at beat) = record { name = 0; count = 0 }

abbrev priority_in : Event → ℕ
priority_in (offering beat name count priority) = priority
priority_in (hearing beat m) = 0
priority_in (at beat) = 0

abbrev heard_in : Event → State → State
heard_in (offering beat name count priority) s = s
heard_in (hearing beat m) s = (receive_of s (bytes_of m)).held
heard_in (at beat) s = s

-- each call gets record, lists and buffer as the last one left them
unfoldable pub roll_from : State → List ℕ → List Event → List Line
roll_from s out [] = []
roll_from s out (o ∷ os) =
    let b : Step = begin_of s (beat_in o) in
    let a : Step = act_of (heard_in o b.held) (block_in o) (priority_in o) out in
    record {
      begun = b.answer.reply;
      made = a.answer.reply;
      decided = decided_log (core_of a.held);
      parted =
          is_yes a.held.bench.parted;
    }
    ∷ roll_from a.held a.answer.out os

-- bench 0 of 1, as Open gives it
abbrev pub alone : State
alone = record {
  bench = fresh_bench 1 0;
  lent = record { names = replicate least_lent 0; counts = replicate least_lent 0; totals = replicate most_blocks 0 };
}

abbrev pub roll : List Event → List Line
roll events = roll_from alone (replicate most_bytes 0) events

-- ---- what is answered

abbrev line : Option Meaning → Log → Line
line made decided = record { begun = done; made = acted made; decided = decided; parted = false }

abbrev parted_line : Option Meaning → Log → Line
parted_line made decided = record { begun = done; made = acted made; decided = decided; parted = true }

-- of bench 0
abbrev log : ℕ → Log → Meaning
log v L = log_message (record { sender = 0; view = v; log = L })

abbrev proposal : ℕ → Log → ℕ → Meaning
proposal v L priority = proposal_message (record { sender = 0; view = v; log = L }) priority

abbrev block : ℕ → ℕ → Block
block name count = record { name = name; count = count }

abbrev five : Log
five = block 5 1 ∷ []

abbrev five_six : Log
five_six = block 5 1 ∷ block 6 1 ∷ []

abbrev seven : Log
seven = block 7 1 ∷ []

-- with counts other than 1
abbrev short : Log
short = block 5 3 ∷ []

abbrev longer : Log
longer = block 5 3 ∷ block 6 0 ∷ []

-- ---- the rolls

-- The sample: "begin and act at beats 0 to 6, offering name 5, count 1, priority 9 at beat 0 and nothing later".
abbrev pub sample : List Event
sample = offering 0 5 1 9 ∷ at 1 ∷ at 2 ∷ at 3 ∷ at 4 ∷ at 5 ∷ at 6 ∷ []

abbrev sample_lines : List Line
sample_lines =
    line (some (proposal 0 five 9)) []
    ∷ line (some (log 0 five)) []
    ∷ line none []
    ∷ line none []
    ∷ line none []
    ∷ line (some (log 1 five)) []
    ∷ line none five
    ∷ []

-- A block in each of two views, with counts other than 1: the second view's extends the first's.
abbrev two_views : List Event
two_views = offering 0 5 3 9 ∷ at 1 ∷ at 2 ∷ at 3 ∷ offering 4 6 0 7 ∷ at 5 ∷ at 6 ∷ at 7 ∷ at 8 ∷ at 9 ∷ at 10 ∷ []

abbrev two_views_lines : List Line
two_views_lines =
    line (some (proposal 0 short 9)) []
    ∷ line (some (log 0 short)) []
    ∷ line none []
    ∷ line none []
    ∷ line (some (proposal 1 longer 7)) []
    ∷ line (some (log 1 longer)) []
    ∷ line none short
    ∷ line none short
    ∷ line none short
    ∷ line (some (log 2 longer)) short
    ∷ line none longer
    ∷ []

-- Asleep at 3: no snapshot two, so no lock at 5; snapshot one is there, so a decision at 6.
abbrev pub asleep : List Event
asleep = offering 0 5 1 9 ∷ at 1 ∷ at 2 ∷ at 4 ∷ at 5 ∷ at 6 ∷ []

abbrev asleep_lines : List Line
asleep_lines = line (some (proposal 0 five 9)) [] ∷ line
    (some (log 0 five)) [] ∷ line none [] ∷ line none [] ∷ line none [] ∷ line none five ∷ []

-- Asleep at 2, awake at 3: a lock and so a LOG at 5, and no decision at 6.
abbrev pub late : List Event
late = offering 0 5 1 9 ∷ at 1 ∷ at 3 ∷ at 4 ∷ at 5 ∷ at 6 ∷ []

abbrev late_lines : List Line
late_lines =
    line (some (proposal 0 five 9)) [] ∷ line (some (log 0 five)) [] ∷ line none [] ∷ line none [] ∷ line
    (some (log 1 five)) [] ∷ line none [] ∷ []

-- Decisions in conflict, at 10 by name and at 22 by count: what stands stays, and the mark is set, for good: also where a later decision
-- extends what stands (14), equals it (18) or is a prefix of it (26). (Only LOGs under its own number can bring a bench alone to this.)
abbrev parting : List Event
parting =
    hearing 2 (log 0 five)
    ∷ hearing 6 (log 1 seven)
    ∷ hearing 10 (log 2 five_six)
    ∷ at 11
    ∷ hearing 14 (log 3 five_six)
    ∷ hearing 18 (log 4 short)
    ∷ hearing 22 (log 5 five)
    ∷ at 26
    ∷ []

abbrev parting_lines : List Line
parting_lines =
    line none []
    ∷ line none five
    ∷ parted_line none five
    ∷ parted_line none five
    ∷ replicate 4 (parted_line none five_six)

-- Decisions that are proper prefixes of the log that stands, the empty one too, change nothing and set no mark; nor does the same log
-- again.
abbrev pub keeping : List Event
keeping = hearing 2 (log 0 five_six) ∷ hearing 6 (log 1 five) ∷ hearing 10 (log 2 []) ∷ hearing 14 (log 3 five_six) ∷ at 18 ∷ []

abbrev keeping_lines : List Line
keeping_lines = line none [] ∷ replicate 4 (line none five_six)

-- the count alone is another
abbrev count_parting : List Event
count_parting = hearing 2 (log 0 five) ∷ hearing 6 (log 1 short) ∷ at 10 ∷ []

abbrev count_parting_lines : List Line
count_parting_lines = line none [] ∷ line none five ∷ parted_line none five ∷ []

-- A LOG under its own number, heard before its own is made: that is made all the same, and makes the bench an equivocator to itself. So
-- there is no candidate, though a block is offered, no lock and no decision.
abbrev pub forged : List Event
forged = offering 0 5 1 9 ∷ hearing 1 (log 0 seven) ∷ at 2 ∷ at 3 ∷ offering 4 6 1 9 ∷ at 5 ∷ at 6 ∷ []

abbrev forged_lines : List Line
forged_lines = line (some (proposal 0 five 9)) [] ∷ line (some (log 0 five)) [] ∷ replicate 5 (line none [])

-- Past the last view nothing is proposed or voted, though there is a candidate, a block and a lock; the last decision stands.
abbrev pub ending : List Event
ending = hearing 4000001 (log 1000000 five) ∷ at 4000002 ∷ at 4000003 ∷ offering 4000004 6 1 9 ∷ at 4000005 ∷ at 4000006 ∷ []

abbrev ending_lines : List Line
ending_lines = replicate 5 (line none []) ++ (line none five ∷ [])

pub rolls_hold : map roll (sample ∷ two_views ∷ asleep ∷ late ∷ parting ∷ keeping ∷ count_parting ∷ forged ∷ ending ∷ [])
    ≡ sample_lines ∷ two_views_lines ∷ asleep_lines ∷ late_lines ∷ parting_lines ∷ keeping_lines ∷ count_parting_lines ∷ forged_lines ∷ ending_lines ∷
    []
unfolding
    roll_from begin_of receive_of unlike totals_from judged_by first_failure malformed meaning_in choice.any_of act_of acted_of changed snapped_by
    settled used_of
    file_message kept_agreement kept_proposals agreement_of
    proposals_of with_agreement any_place beyond_agreement beyond_proposals beyond propose vote makes vote_among kept_proposal file_proposal_of
    best_of grade_among
    member adding removing file_of overlong may_support supports has_grade under prefixes candidates reading.longer longest_of longest weigh
    log_at message_bytes
    bytes_of part put number_at numbers_at bytes_for bytes_for_each is_prefix same_log in_step names_of counts_of
rolls_hold = refl
