-- One bench, the field's validator, by its history: what it is to answer, make and decide, worked out from its list of calls and from
-- nothing else (document 01, the words on demand 3 after the calendar). Nothing is forgotten here; a view that is no longer open is read by
-- no later act. Assumes nothing.
use Rattle.std.specs.Prelude.{ℕ, zero, suc, Bool, true, false, not, ◌||◌, List, [], ◌∷◌, eqb, leb}
use Rattle.std.proofs.Math.Option.{Option, some, none}
use Rattle.message.specs.Choice.{pick}
use Rattle.message.specs.Causes.{Cause, first_failure}
use Rattle.message.specs.Logs.{Block, Log, same_log}
use Rattle.message.specs.Message.{Content, agreement_number, Meaning, log_message, proposal_message, Parsed, refused as unread, means}
use Rattle.agreement.specs.Record.{SnapshotNumber, one, two}
use Rattle.agreement.specs.Filing.{Word}
use Rattle.agreement.specs.Kept.{word_on, same_proposal}
use Rattle.agreement.specs.Heard.{heard_logs, voters_of, grade_now, grade_with, ProposalHeard, heard_proposals, vote_among}
use Rattle.bench.specs.Terms.{Seat, weight_of, read_in}
use Rattle.bench.specs.Layout.{Lent}
use Rattle.bench.specs.Calendar.{snapshot_beat, view_of, place_in, Act, act_at, grade_read}
use Rattle.bench.specs.Calls.{Call, begin, receive, act, find, buffer_in, Reply, refused, done, took, acted, Answer, found_in}
use Rattle.bench.specs.Causes.{open_causes, begin_causes, receive_causes, act_causes, find_causes}
use Rattle.bench.specs.Acts.{Seen, used_first, used_of_grade, makes, out_after, decides, Stand, settle}

-- ---- the history

-- An Act, not refused: its beat, the LOGs taken or made before it, what it made, and the log it had to decide (even where that changes
-- nothing).
pub record ActRecord : Type 0 where
  pub beat : ℕ
  pub heard : List Content
  pub made : Option Meaning
  pub decided : Option Log

-- What the calls so far come to, the newest first in each list:
--   last       the last begun beat
--   gathering  one is under way: the time in which messages are taken, "from a Begin to the next Begin or Act, refused ones skipped"
--   heard      the LOGs taken or made
--   proposals  the PROPOSALs taken or made
--   actions    the Acts
pub record History : Type 0 where
  pub last : Option ℕ
  pub gathering : Bool
  pub heard : List Content
  pub proposals : List ProposalHeard
  pub actions : List ActRecord

-- at the start
abbrev pub fresh : Seat → History
fresh S = record { last = S.last; gathering = false; heard = []; proposals = []; actions = [] }

-- the beat of the last Begin; where there is none, no message is taken and no act done
abbrev pub or_zero : Option ℕ → ℕ
or_zero none = 0
or_zero (some b) = b

abbrev pub beat_now : History → ℕ
beat_now p = or_zero p.last

-- what the decisions come to
unfoldable pub stand_in : Stand → List ActRecord → Stand
stand_in st [] = st
stand_in st (d ∷ ds) = settle (stand_in st ds) d.decided

abbrev pub stand_now : Seat → History → Stand
stand_now S p = stand_in S.stood p.actions

-- ---- refusals: 9 never arises here, and 8 at Open only

-- Open: 7, 8
unfoldable pub open_refusal : Seat → Lent → Option ℕ
open_refusal S l = first_failure (open_causes S.terms.n S.own l)

abbrev pub not_above : ℕ → Option ℕ → Bool
not_above b none = false
not_above b (some last) = leb b last

-- Begin: 10, 20. Receive: 22, 1 to 6, 21. Act: 11, 22. Find: 23.
abbrev pub causes : Seat → History → Call → List Cause
causes S p (begin b) = begin_causes b (not_above b p.last)
causes S p (receive bytes) = receive_causes (not p.gathering) S.terms.n (beat_now p) bytes
causes S p (act block priority out) = act_causes out (not p.gathering)
causes S p (find e) = find_causes (stand_now S p).log e

unfoldable pub refusal : Seat → History → Call → Option ℕ
refusal S p c = first_failure (causes S p c)

-- ---- filing

-- the answer to a message taken, by what its sender's of that kind and view come to so far
unfoldable pub word_for : History → Meaning → Word
word_for p (log_message m) = word_on same_log (heard_logs p.heard (agreement_number m) m.sender) m.log
word_for p (proposal_message m priority) =
    word_on same_proposal (heard_proposals p.proposals m.view m.sender) (record { log = m.log; priority = priority })

-- A message taken, or made, is one more of those so far: own messages are filed by the receive rules.
unfoldable pub file : History → Meaning → History
file p (log_message m) =
    record { last = p.last; gathering = p.gathering; heard = m ∷ p.heard; proposals = p.proposals; actions = p.actions }
file p (proposal_message m priority) =
    record {
      last = p.last;
      gathering = p.gathering;
      heard = p.heard;
      proposals = record { content = m; priority = priority } ∷ p.proposals;
      actions = p.actions;
    }

-- ---- what an act sees

-- the LOGs heard by the act of beat b, if there was one
unfoldable pub heard_at : List ActRecord → ℕ → Option (List Content)
heard_at [] b = none
heard_at (d ∷ ds) b = pick (eqb d.beat b) (some d.heard) (heard_at ds b)

-- a snapshot of GA u: V of what was heard by then, taken only by a bench acting then
abbrev pub snapshot_of : ℕ → Option (List Content) → Option (ℕ → Bool)
snapshot_of u none = none
snapshot_of u (some heard) = some (voters_of (heard_logs heard u))

abbrev pub snapshot_took : History → SnapshotNumber → ℕ → Option (ℕ → Bool)
snapshot_took p k u = snapshot_of u (heard_at p.actions (snapshot_beat k u))

-- the longest log with grade k of GA u: grade 0 uses no snapshot, grade 1 snapshot two, grade 2 snapshot one
unfoldable pub grade_at : Seat → History → ℕ → ℕ → Option Log
grade_at S p u zero = grade_now S.terms.n (weight_of S.terms) (heard_logs p.heard u)
grade_at S p u (suc zero) = grade_with S.terms.n (weight_of S.terms) (heard_logs p.heard u) (snapshot_took p two u)
grade_at S p u (suc (suc k)) = grade_with S.terms.n (weight_of S.terms) (heard_logs p.heard u) (snapshot_took p one u)

-- the log that an act of view v uses
unfoldable pub used_at : Seat → History → ℕ → Act → Option Log
used_at S p zero a = used_first a
used_at S p (suc u) a = used_of_grade (grade_at S p u) (grade_read a)

abbrev pub seen_at : Seat → History → ℕ → Act → Seen
seen_at S p v a = record { used = used_at S p v a; choose = vote_among S.terms.n (heard_proposals p.proposals v) }

-- what an Act makes and decides at the beat that it is
unfoldable pub made_by : Seat → History → Block → ℕ → Option Meaning
made_by S p block priority =
    makes S.own (view_of (beat_now p)) block priority (seen_at S p (view_of (beat_now p)) (act_at (place_in (beat_now p))))
    (act_at (place_in (beat_now p)))

unfoldable pub decided_by : Seat → History → Option Log
decided_by S p = decides (seen_at S p (view_of (beat_now p)) (act_at (place_in (beat_now p)))) (act_at (place_in (beat_now p)))

-- ---- one call

abbrev pub file_read : History → Parsed → History
file_read p (unread k) = p
file_read p (means m) = file p m

abbrev pub file_made : History → Option Meaning → History
file_made p none = p
file_made p (some m) = file p m

-- an Act ends the gathering, and is one more of the Acts so far
abbrev pub closed : History → Option Meaning → Option Log → History
closed p made decided =
    record {
      last = p.last;
      gathering = false;
      heard = p.heard;
      proposals = p.proposals;
      actions = record { beat = beat_now p; heard = p.heard; made = made; decided = decided } ∷ p.actions;
    }

-- a call that is not refused: the history after it
unfoldable pub accepted : Seat → History → Call → History
accepted S p (begin b) =
    record { last = some b; gathering = true; heard = p.heard; proposals = p.proposals; actions = p.actions }
accepted S p (receive bytes) = file_read p (read_in S.terms bytes)
accepted S p (act block priority out) =
    file_made (closed p (made_by S p block priority) (decided_by S p)) (made_by S p block priority)
accepted S p (find e) = p

-- and what it answers
abbrev pub word_read : History → Parsed → Reply
word_read p (unread k) = refused k
word_read p (means m) = took (word_for p m)

unfoldable pub accepted_answer : Seat → History → Call → Answer
accepted_answer S p (begin b) = record { reply = done; out = [] }
accepted_answer S p (receive bytes) = record { reply = word_read p (read_in S.terms bytes); out = [] }
accepted_answer S p (act block priority out) =
    record { reply = acted (made_by S p block priority); out = out_after (made_by S p block priority) out }
accepted_answer S p (find e) = record { reply = found_in (stand_now S p).log e; out = [] }

-- A refusal changes nothing, and answers its number alone.
abbrev pub or_accepted : Option ℕ → History → History → History
or_accepted none p q = q
or_accepted (some k) p q = p

abbrev pub or_answered : Option ℕ → List ℕ → Answer → Answer
or_answered none out a = a
or_answered (some k) out a = record { reply = refused k; out = out }

unfoldable pub step : Seat → History → Call → History
step S p c = or_accepted (refusal S p c) p (accepted S p c)

unfoldable pub answer : Seat → History → Call → Answer
answer S p c = or_answered (refusal S p c) (buffer_in c) (accepted_answer S p c)

-- ---- a list of calls

unfoldable pub after_from : Seat → History → List Call → History
after_from S p [] = p
after_from S p (c ∷ cs) = after_from S (step S p c) cs

unfoldable pub after : Seat → List Call → History
after S cs = after_from S (fresh S) cs

unfoldable pub answers_from : Seat → History → List Call → List Answer
answers_from S p [] = []
answers_from S p (c ∷ cs) = answer S p c ∷ answers_from S (step S p c) cs

unfoldable pub answers_to : Seat → List Call → List Answer
answers_to S cs = answers_from S (fresh S) cs

-- awake at a beat: begun and acted in, neither call refused
unfoldable pub acted_at : List ActRecord → ℕ → Bool
acted_at [] b = false
acted_at (d ∷ ds) b = eqb d.beat b || acted_at ds b

unfoldable pub awake : Seat → List Call → ℕ → Bool
awake S cs b = acted_at (after S cs).actions b

-- what stands after the list
unfoldable pub stand : Seat → List Call → Stand
stand S cs = stand_now S (after S cs)
