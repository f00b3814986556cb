-- What the inner functions ask and promise: steps on the way to the definitions of bench's ByRecord, which they do not add to. Assumes
-- nothing.
use Rattle.std.specs.Prelude.{ℕ, ◌≤◌, ◌<◌, Bool, false, not, ◌&&◌, ◌||◌, ltb, length, drop, List, [], ◌≡◌, Result, Ok, Err, Some, None}
use Rattle.std.specs.Prelude as std
use Rattle.message.specs.Limits.{most_blocks, last_view}
use Rattle.message.specs.Choice.{pick}
use Rattle.message.specs.Causes.{judged_by, first_failure}
use Rattle.message.specs.Numbers.{put}
use Rattle.agreement.specs.Limits.{most_senders}
use Rattle.agreement.specs.Record.{Agreement, is_sender, one, two}
use Rattle.agreement.specs.Grades.{snapshot_for, log_of}
use Rattle.agreement.specs.Tally.{supporters_of}
use Rattle.agreement.specs.declared.Answer.{Answer}
use Rattle.agreement.specs.declared.Given.{Given}
use Rattle.agreement.specs.declared.Longest.{Longest}
use Rattle.message.specs.Message.{Meaning, meaning_in}
use Rattle.agreement.specs.Sets.{count, member}
use Rattle.agreement.specs.declared.Marks.{Marks}
use Rattle.std.proofs.Math.Option.{Option, some, none}
use Rattle.message.specs.Logs.{Block, Log}
use Rattle.message.specs.Store.{log_at}
use Rattle.bench.specs.Record.{Bench, bench_from, bench_with, beat_of, any_place, names_beyond}
use Rattle.bench.specs.Calendar.{Act, proposing, voting, deciding, snapping}
use Rattle.bench.specs.Layout.{most_bytes, too_few_places}
use Rattle.bench.specs.Totals.{totals_from, unlike, extended}
use Rattle.bench.specs.Calls.{acted, open_to, refused, Core, State}
use Rattle.bench.specs.Causes.{message_causes}
use Rattle.bench.specs.Acts.{out_after}
use Rattle.bench.specs.Tested.{Before, Served, Tested}
use Rattle.bench.specs.ByRecord.{Effect, file_message, taken, used_of, seen_of, with_made, settled, snapped_by}
use Rattle.bench.specs.ByRecord.{record_causes, decided_log}
use Rattle.bench.specs.Answers.{core_with, taken_reply, made_reply}
use Rattle.bench.specs.declared.Head.{Head}
use Rattle.bench.specs.declared.Rows.{Rows}
use Rattle.bench.specs.Refusals.{refusal_number}
use Rattle.bench.specs.declared.refusal.Refusal.{Refusal}
use Rattle.bench.specs.declared.Made.{Made}
use Rattle.bench.specs.Support.{or_empty}
use Rattle.bench.specs.declared.Counted.{Counted}
use Rattle.calls.specs.TotalSteps.{decided_counts}
use Rattle.calls.specs.declared.calendar.Act as calendar
use Rattle.calls.specs.declared.calendar.Act.TheVariants as acts
use Rattle.calls.specs.declared.seeing.Listed.{Listed}

-- what the head alone says: no array matters to it
abbrev pub bare : Head → Bench
bare h = bench_from h [] [] [] []

-- the code's row of the calendar, and its grade
abbrev pub row_of : calendar.Act → Act
row_of acts.Proposing = proposing
row_of acts.Voting = voting
row_of acts.Deciding = deciding
row_of acts.Snapping = snapping

abbrev pub option_of : std.Option ℕ → Option ℕ
option_of None = none
option_of (Some k) = some k

-- ---- 9 (Record: bad_sender): the causes that lie in the sets of an agreement

abbrev pub outside : Marks → ℕ → ℕ → Bool
outside m snapshot i = member snapshot i && not (member m.voters i || member m.equivocators i)

unfoldable pub bad_sets : ℕ → Marks → Bool
bad_sets n m =
    any_place (names_beyond n m.voters)
    || (any_place (names_beyond n m.equivocators)
    || (any_place (names_beyond n m.one.senders)
    || (any_place (names_beyond n m.two.senders)
    || (any_place (λ (i : ℕ). member m.voters i && member m.equivocators i)
    || (any_place (outside m m.one.senders) || any_place (outside m m.two.senders))))))

-- ---- what every call on a record is refused by: 9, 8, 9 by the totals

-- the first that is so is given, or none is
abbrev pub Judged : State → Result (Unit {0}) Refusal → Type 0
Judged s (Ok _) = Served s
Judged s (Err why) = first_failure (record_causes s) ≡ some (refusal_number why)

pub record Judges (s : State) (r : Result (Unit {0}) Refusal) : Type 0 where
  pub judged : Judged s r

-- ---- what is answered, and the head after it: as it was, beside a refusal

abbrev pub given_of : {A : Type 0} → Head → Result (Given A Head) Refusal → Given (Result A Refusal) Head
given_of h (Ok g) = record { answer = Ok g.answer; after = g.after }
given_of h (Err why) = record { answer = Err why; after = h }

-- ---- answered so, and record, lists and buffer left so: as ReceiveGives and ActGives of bench's Answers say it of a call

pub record TakeGives (t : Effect) (a : Result Answer Refusal) (b : Bench) (names counts : List ℕ) : Type 0 where
  pub answered : taken_reply a ≡ t.answer.reply
  pub bench : b ≡ t.core.bench
  pub name_list : names ≡ t.core.names
  pub count_list : counts ≡ t.core.counts

pub record MakeGives (t : Effect) (a : Made) (b : Bench) (names counts out : List ℕ) : Type 0 where
  pub answered : made_reply out (Ok a) ≡ t.answer.reply
  pub bench : b ≡ t.core.bench
  pub name_list : names ≡ t.core.names
  pub count_list : counts ≡ t.core.counts
  pub buffer : out ≡ t.answer.out

-- an act, with the totals beside its core
pub record ActLeaves (totals : List ℕ) (old : ℕ) (t : Effect) (a : Made) (b : Bench) (names counts totals' out : List ℕ) : Type 0 where
  pub made : MakeGives t a b names counts out
  pub total_list : totals' ≡ extended totals old (decided_log t.core)

-- ---- a message taken

-- refused by k: nothing else changes
abbrev pub untaken : Core → ℕ → Effect
untaken c k = record { core = c; answer = record { reply = refused k; out = [] } }

-- Receive in a gathering: judged by the message
abbrev pub receives : Core → List ℕ → Effect
receives c bytes =
    judged_by (message_causes c.bench.n (beat_of c.bench) bytes) (untaken c) (taken (file_message c bytes (meaning_in bytes)))

-- and of a message that was read as m: by its window alone
abbrev pub receives_as : Core → List ℕ → Meaning → Effect
receives_as c bytes m = pick (open_to m (beat_of c.bench)) (taken (file_message c bytes m)) (untaken c 21)

-- ---- a log in the lists

abbrev pub found_log : List ℕ → List ℕ → std.Option Listed → Option Log
found_log names counts None = none
found_log names counts (Some l) = some (log_at names counts l.at l.blocks)

abbrev pub FoundBefore : std.Option Listed → Type 0
FoundBefore None = Unit {0}
FoundBefore (Some l) = Before l.at l.blocks

pub record Finds (o : Option Log) (names counts : List ℕ) (r : std.Option Listed) : Type 0 where
  pub log : found_log names counts r ≡ o
  pub before : FoundBefore r

-- the log voted for: none without a lock
abbrev pub ballot : (Log → Log) → Option Log → Option Log
ballot choose none = none
ballot choose (some lock) = some (choose lock)

abbrev pub ballot_of : Core → ℕ → Option Log
ballot_of c v = ballot (seen_of c v voting).choose (used_of c v voting)

-- ---- a message made: filed as one's own, and at the front of the buffer

abbrev pub made_step : Core → List ℕ → Meaning → Effect
made_step c out m = record { core = with_made c (some m); answer = record { reply = acted (some m); out = out_after (some m) out } }

-- an act that proposes nothing uses no offered block
abbrev pub no_block : Block
no_block = record { name = 0; count = 0 }

-- what making one of the blocks at place a asks
pub record Making (names counts out : List ℕ) (v a k : ℕ) : Type 0 where
  pub lists : too_few_places names counts ≡ false
  pub room : ltb (length out) most_bytes ≡ false
  pub early : v ≤ last_view
  pub before : Before a k

-- ---- record and lists were left so

pub record Leaves (t : Core) (b : Bench) (names counts : List ℕ) : Type 0 where
  pub bench : b ≡ t.bench
  pub name_list : names ≡ t.names
  pub count_list : counts ≡ t.counts

-- what deciding asks: the lists are long enough, and the decided length within its limit
pub record Decidable (h : Head) (names counts : List ℕ) : Type 0 where
  pub lists : too_few_places names counts ≡ false
  pub short : h.decided ≤ most_blocks

pub record Settling (h : Head) (names counts : List ℕ) (a k : ℕ) : Type 0 where
  pub decidable : Decidable h names counts
  pub before : Before a k

-- a decision, whatever the rows; the counts of what stood decided stay
pub record Settles (h : Head) (names counts : List ℕ) (o : Option Log) (r : Head) (names' counts' : List ℕ) : Type 0 where
  pub short : r.decided ≤ most_blocks
  pub size : length counts' ≡ length counts
  pub kept : decided_counts counts' h.decided ≡ decided_counts counts h.decided
  pub whole : (rows : Rows) → Leaves (settled (core_with (bench_with h rows) names counts) o) (bench_with r rows) names' counts'

-- what deciding asks, with the totals: those of what stands decided are right
pub record Deciding (h : Head) (names counts totals : List ℕ) : Type 0 where
  pub decidable : Decidable h names counts
  pub room : most_blocks ≤ length totals
  pub right : unlike (totals_from 0 (decided_counts counts h.decided)) totals ≡ false

pub record Acting (h : Head) (rows : Rows) (names counts totals out : List ℕ) : Type 0 where
  pub tested : Tested (core_with (bench_with h rows) names counts) out
  pub deciding : Deciding h names counts totals

pub record Decides (h : Head) (rows : Rows) (names counts totals : List ℕ) (v : ℕ) (r : Head) (names' counts' totals' : List ℕ) : Type 0
  where
    pub total_list : totals' ≡ put totals h.decided (drop h.decided (totals_from 0 (decided_counts counts' r.decided)))
    pub core : Leaves (settled (core_with (bench_with h rows) names counts) (used_of (core_with (bench_with h rows) names counts) v deciding))
        (bench_with r rows) names' counts'

-- a snapshot, whatever the lists
pub record Snaps (h : Head) (rows : Rows) (v : ℕ) (second : Bool) (r : Head) (rows' : Rows) : Type 0 where
  pub whole : (names counts : List ℕ)
      → core_with (bench_with r rows') names counts ≡ snapped_by (pick second two one) v (core_with (bench_with h rows) names counts)

-- ---- the counts beside a grade of one agreement

pub record CountsIn (names counts : List ℕ) (base : ℕ) (g : Agreement) (k : ℕ) (grade : std.Option Longest) (r : Counted) : Type 0 where
  pub same : r.grade ≡ grade
  pub supporters : r.supporters ≡ supporters_of names counts base g (snapshot_for k g.marks).senders
      (or_empty (log_of names counts base grade))
  pub few_supporters : r.supporters ≤ most_senders
  pub senders : r.senders ≡ count most_senders (is_sender g)
  pub few_senders : r.senders ≤ most_senders
