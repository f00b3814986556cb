-- What the program prints for a roll, as a function of the roll's bytes (document 01, "The roll"), through the calls that demand 3 is
-- proved of. Assumes nothing.
use Rattle.std.specs.Prelude.{ℕ, ◌≤◌, Bool, true, false, List, [], ◌∷◌, ◌++◌, ◌≡◌, ltb, length, replicate}
use Rattle.std.proofs.Math.Option.{Option, some, none}
use Rattle.message.specs.Limits.{most_blocks}
use Rattle.message.specs.Choice.{pick}
use Rattle.message.specs.Numbers.{put}
use Rattle.message.specs.Message.{Meaning, log_message, proposal_message}
use Rattle.agreement.specs.Sets.{is_yes}
use Rattle.agreement.specs.Filing.{Word, first, second, known}
use Rattle.bench.specs.Layout.{Lent, least_lent}
use Rattle.bench.specs.Terms.{Terms, Seat}
use Rattle.bench.specs.Calls.{Call, begin, receive, act, find, Reply, refused, done, took, acted, found, State, Opening, Step}
use Rattle.bench.specs.Acts.{Stand}
use Rattle.bench.specs.History.{History, step, answer, stand_in}
use Rattle.bench.specs.ByRecord.{open_of}
use Rattle.demand.specs.Demand.{byValue, call}
use Rattle.demand.specs.TheBench.{the_bench}
use Rattle.run.specs.Texts.{ascii, decimal}
use Rattle.run.specs.Roll.{most_roll, benches_of, own_of, misshapen, calls_of}

-- ---- a line

abbrev pub word_text : Word → List ℕ
word_text first = ascii "first"
word_text second = ascii "second"
word_text known = ascii "known"

-- "MADE is none, log or proposal, K its blocks (0 for none)"
unfoldable pub made_text : Option Meaning → List ℕ
made_text none = ascii "none 0"
made_text (some (log_message m)) = ascii "log " ++ decimal (length m.log)
made_text (some (proposal_message m priority)) = ascii "proposal " ++ decimal (length m.log)

-- "with ` parted` added once marked"
abbrev pub mark_text : Bool → List ℕ
mark_text true = ascii " parted"
mark_text false = []

-- ok, WORD, or MADE K D; a refusal "as its number". D, the blocks decided, and the mark are those after the call. A roll holds no look-up:
-- nothing is said of one, here and in `call_text`.
unfoldable pub reply_text : Reply → ℕ → Bool → List ℕ
reply_text (refused k) d parted = decimal k
reply_text done d parted = ascii "ok"
reply_text (took w) d parted = word_text w
reply_text (acted made) d parted = made_text made ++ (ascii " " ++ (decimal d ++ mark_text parted))
reply_text (found block inside) d parted = []

-- A refused begin prints the beat asked for too.
abbrev pub call_text : Call → List ℕ
call_text (begin beat) = ascii "begin " ++ decimal beat
call_text (receive bytes) = ascii "take"
call_text (act block priority out) = ascii "act"
call_text (find e) = []

-- every line ends in a line feed
unfoldable pub line_for : Call → Reply → ℕ → Bool → List ℕ
line_for c r d parted = call_text c ++ (ascii " " ++ (reply_text r d parted ++ ascii "\n"))

abbrev pub line_of : Call → Step → List ℕ
line_of c t = line_for c t.answer.reply t.held.bench.decided (is_yes t.held.bench.parted)

-- ---- the lines, a call after the other: a refusal does not end the run

abbrev pub step_of : State → Call → Step
step_of x c = call the_bench byValue x c

unfoldable pub lines_of : State → List Call → List ℕ
lines_of x [] = []
lines_of x (c ∷ cs) = line_of c (step_of x c) ++ lines_of (step_of x c).held cs

-- The same worked out from the list of calls, not from the record: the answers, and what the decisions come to.
unfoldable pub lines_by : Seat → History → List Call → List ℕ
lines_by S p [] = []
lines_by S p (c ∷ cs) =
    let stands : Stand = stand_in S.stood (step S p c).actions in
    line_for c (answer S p c).reply (length stands.log) stands.parted ++ lines_by S (step S p c) cs

-- ---- the text

abbrev pub no_roll_text : List ℕ
no_roll_text = ascii "roll ?\n"

unfoldable pub first_line : ℕ → ℕ → List ℕ
first_line own n = ascii "bench " ++ (decimal own ++ (ascii " of " ++ (decimal n ++ ascii "\n")))

abbrev pub is_done : Reply → Bool
is_done (refused k) = false
is_done done = true
is_done (took w) = false
is_done (acted made) = false
is_done (found block inside) = false

-- the terms of a roll's bench
abbrev pub terms_of : List ℕ → Terms
terms_of s = record { n = benches_of s }

-- "or with n or own number refused": from what Open gave
unfoldable pub opened_text : List ℕ → Lent → Opening → List ℕ
opened_text s l o =
    pick (is_done o.reply)
    (first_line (own_of s) (benches_of s) ++ lines_of (record { bench = o.bench; lent = l }) (calls_of s))
    no_roll_text

-- the third of the lent lists that the bench starts on
abbrev pub fresh_totals : List ℕ
fresh_totals = replicate most_blocks 0

-- all three; what they hold at first shows nowhere (RollHistory: any_lists)
abbrev pub fresh_lists : Lent
fresh_lists = record { names = replicate least_lent 0; counts = replicate least_lent 0; totals = fresh_totals }

unfoldable pub text_of : List ℕ → List ℕ
text_of s = pick (misshapen s) no_roll_text (opened_text s fresh_lists (open_of (benches_of s) (own_of s) fresh_lists))

-- ---- the promise

-- the text buffer is at least as long as the longest roll
abbrev pub scant_buffer : List ℕ → Bool
scant_buffer before = ltb (length before) most_roll

-- The text stands at the front of the lent buffer, whole, and all else there is as it was. Into a buffer that is too short nothing is
-- written, and the answer is 0, which no text's length is (EventLaws: text_some).
pub record WritesText (s before : List ℕ) (r : ℕ) (after : List ℕ) : Type 0 where
  pub answered : r ≡ pick (scant_buffer before) 0 (length (text_of s))
  pub fits : r ≤ length after
  pub buffer : after ≡ pick (scant_buffer before) before (put before 0 (text_of s))
