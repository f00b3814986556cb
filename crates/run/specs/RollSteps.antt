-- What the inner functions of the roll's text ask and give: no reader needs it to believe the text. Assumes nothing.
use Rattle.std.specs.Prelude.{Option, Some, None, Result, Ok, Err, ℕ, ◌+◌, ◌-◌, ◌*◌, ◌/◌, ◌%◌, ◌≤◌, ◌<◌, Bool, true, false, ◌||◌, List, [], ◌∷◌, ◌++◌, ◌≡◌, length}
use Rattle.message.specs.Limits.{head_length, block_width}
use Rattle.message.specs.Choice.{pick}
use Rattle.message.specs.Numbers.{put}
use Rattle.agreement.specs.Limits.{most_senders}
use Rattle.agreement.specs.Sets.{is_yes}
use Rattle.agreement.specs.Filing.{word_of}
use Rattle.agreement.specs.declared.Answer.{Answer}
use Rattle.bench.specs.Layout.{Lent}
use Rattle.bench.specs.Calls.{Call, State}
use Rattle.bench.specs.Record.{bench_of}
use Rattle.bench.specs.declared.Bench.{Bench}
use Rattle.bench.specs.declared.Offer.{Offer}
use Rattle.bench.specs.Refusals.{refusal_number}
use Rattle.bench.specs.declared.refusal.Refusal.{Refusal}
use Rattle.bench.specs.declared.Made.{Made}
use Rattle.bench.specs.declared.Made.TheVariants as makings
use Rattle.bench.specs.declared.Counted.{Counted}
use Rattle.run.specs.declared.Answered.{Answered}
use Rattle.run.specs.declared.Answered.TheVariants as answers
use Rattle.run.specs.declared.Kind.{Kind}
use Rattle.run.specs.declared.Kind.TheVariants as kinds
use Rattle.run.specs.Texts.{ascii, decimal}
use Rattle.run.specs.Roll.{most_roll, most_events, sizes_length, events_of, mark_place, kind_at, zero_at, length_at, bodies_place, misfits}
use Rattle.run.specs.Roll.{begin_kind, receive_kind, act_kind, misshapen, offered_at, priority_at, calls_from}
use Rattle.run.specs.RollText.{word_text, mark_text, line_of, lines_of, step_of}
use Rattle.run.specs.Held.{opening_of, open_refuses, held_after, first_calls, scant, too_few}
use Rattle.run.specs.MadeBytes.{no_act}

-- the bytes that a line is given room for
abbrev pub line_room : ℕ
line_room = 48

-- ---- lines by the code's answers

-- the end of a line that says xs
unfoldable pub end_text : List ℕ → List ℕ
end_text xs = ascii " " ++ (xs ++ ascii "\n")

unfoldable pub start_text : Result (Unit {0}) Refusal → List ℕ
start_text (Ok _) = ascii " ok\n"
start_text (Err why) = end_text (decimal (refusal_number why))

unfoldable pub taken_text : Result Answer Refusal → List ℕ
taken_text (Ok a) = ascii "take" ++ end_text (word_text (word_of a))
taken_text (Err why) = ascii "take" ++ end_text (decimal (refusal_number why))

-- D and the mark
unfoldable pub stand_text : ℕ → Bool → List ℕ
stand_text d parted = ascii " " ++ (decimal d ++ (mark_text parted ++ ascii "\n"))

unfoldable pub acted_text : ℕ → Bool → Result Made Refusal → List ℕ
acted_text d parted (Ok makings.Nothing) = ascii "act none 0" ++ stand_text d parted
acted_text d parted (Ok (makings.Log k)) = ascii "act log " ++ (decimal k ++ stand_text d parted)
acted_text d parted (Ok (makings.Proposal k)) = ascii "act proposal " ++ (decimal k ++ stand_text d parted)
acted_text d parted (Err why) = ascii "act" ++ end_text (decimal (refusal_number why))

unfoldable pub answer_text : ℕ → Bool → Answered → List ℕ
answer_text d parted (answers.Begun beat a) = ascii "begin " ++ (decimal beat ++ start_text a)
answer_text d parted (answers.Taken a) = taken_text a
answer_text d parted (answers.Acted a) = acted_text d parted a

-- ---- what is written

-- xs was written at a place of the text, which goes on at r
pub record Puts (xs : List ℕ) (at : ℕ) (before : List ℕ) (r : ℕ) (after : List ℕ) : Type 0 where
  pub place : r ≡ at + length xs
  pub text : after ≡ put before at xs

-- the same in so many bytes at most,
pub record PutsWithin (most : ℕ) (xs : List ℕ) (at : ℕ) (before : List ℕ) (r : ℕ) (after : List ℕ) : Type 0 where
  pub puts : Puts xs at before r after
  pub upper_bound : r ≤ at + most

-- and in just so many
pub record PutsJust (count : ℕ) (xs : List ℕ) (at : ℕ) (before : List ℕ) (r : ℕ) (after : List ℕ) : Type 0 where
  pub puts : Puts xs at before r after
  pub value : r ≡ at + count

-- the two digits of a number below 100
abbrev pub pair_of : ℕ → List ℕ
pair_of x = (48 + x / 10) ∷ (48 + x % 10) ∷ []

-- what is still to be written, xs at place p, makes the whole text z, which ends at r
pub record Remains (z : List ℕ) (r : ℕ) (text : List ℕ) (p : ℕ) (xs : List ℕ) : Type 0 where
  pub place : r ≡ p + length xs
  pub whole : z ≡ put text p xs

-- ---- what is called

-- the call c was made on x: y is the record and the lists that it left, and its line is that of the answer
pub record EventGives (c : Call) (x : State) (a : Answered) (y : State) : Type 0 where
  pub left : y ≡ (step_of x c).held
  pub line : answer_text y.bench.decided (is_yes y.bench.parted) a ≡ line_of c (step_of x c)

-- ---- the first k calls of a roll s, made on x; the lines are written from place `at` on where they are asked for

-- what is written of xs
abbrev pub told : Bool → List ℕ → List ℕ
told prints xs = pick prints xs []

-- room for a line, and the line within it
pub record LineFits (prints : Bool) (p : ℕ) (text : List ℕ) : Type 0 where
  pub room : prints ≡ true → p + line_room ≤ length text

pub record LineEnds (prints : Bool) (p q : ℕ) : Type 0 where
  pub short : prints ≡ true → q ≤ p + line_room

-- room for the lines of the events from event i on
pub record LinesFit (prints : Bool) (i p : ℕ) (text : List ℕ) : Type 0 where
  pub low : prints ≡ true → p ≤ line_room * (i + 1)
  pub long : prints ≡ true → most_roll ≤ length text

-- made: y is the record and the lists that are left, and the text is left so and ends at r
pub record Runs (prints : Bool) (s : List ℕ) (k : ℕ) (x : State) (at : ℕ) (before : List ℕ) (y : State) (r : ℕ)
    (after : List ℕ) : Type 0 where
  pub left : y ≡ held_after x (first_calls s k)
  pub lines : Puts (told prints (lines_of x (first_calls s k))) at before r after
  pub short : prints ≡ true → r ≤ most_roll

-- what is left of it before event i, whose body starts at place a: made on y and written from place p on, it comes to the same
pub record Ahead (prints : Bool) (s : List ℕ) (k : ℕ) (x : State) (at : ℕ) (before : List ℕ) (i a : ℕ) (y : State) (p : ℕ)
    (text : List ℕ) : Type 0 where
  pub held : held_after x (first_calls s k) ≡ held_after y (calls_from s i a (k - i))
  pub lines : Remains (put before at (told prints (lines_of x (first_calls s k)))) (at + length (told prints (lines_of x (first_calls s k))))
      text p (told prints (lines_of y (calls_from s i a (k - i))))

-- ---- what is read

-- the body of an Act at place a, as the code holds it
unfoldable pub offer_at : List ℕ → ℕ → Offer
offer_at s a = record { name = (offered_at s a).name; priority = priority_at s a; count = (offered_at s a).count }

-- the bytes of what an Act made, by the code's answer
unfoldable pub length_for : Result Made Refusal → ℕ
length_for (Ok makings.Nothing) = 0
length_for (Ok (makings.Log k)) = head_length + block_width * k
length_for (Ok (makings.Proposal k)) = head_length + block_width * k
length_for (Err why) = 0

-- ---- what is asked

-- the mark of event i lies in the roll
abbrev pub Marked : List ℕ → ℕ → Type 0
Marked s i = mark_place (i + 1) ≤ length s

-- m is the mark of event i as one number: its kind and a zero in the lower half, its body's length in the upper
pub record MarkIs (s : List ℕ) (i m : ℕ) : Type 0 where
  pub start : m % 65536 ≡ kind_at s i + zero_at s i * 256
  pub kind : kind_at s i < 256
  pub body : m / 65536 ≡ length_at s i
  pub short : m / 65536 < 65536

-- the first byte of a mark says this kind
abbrev pub KindIs : ℕ → Kind → Type 0
KindIs k kinds.Begin = k ≡ begin_kind
KindIs k kinds.Receive = k ≡ receive_kind
KindIs k kinds.Act = k ≡ act_kind

-- event i, whose body starts at place a, lies in the roll
pub record Lies (s : List ℕ) (i a : ℕ) : Type 0 where
  pub event : i < events_of s
  pub body : a + length_at s i ≤ length s

-- a roll of the right form
pub record Shaped (s : List ℕ) : Type 0 where
  pub long : sizes_length ≤ length s
  pub short : length s ≤ most_roll
  pub few : events_of s ≤ most_events
  pub fit : misfits s 0 (bodies_place s) (events_of s) ≡ false

-- ---- whether anything is shown or made, before the bench is opened

-- nothing is shown of the first k calls
abbrev pub unshown : ℕ → List ℕ → ℕ → List ℕ → Bool
unshown least s k buffer = scant least buffer || (misshapen s || too_few s k)

-- no message is made of event k
abbrev pub unmade : List ℕ → ℕ → Bool
unmade s k = misshapen s || no_act s k

-- a roll's bench, opened on these lists
abbrev pub Opens : List ℕ → Lent → Option Bench → Type 0
Opens s l None = open_refuses s l ≡ true
Opens s l (Some b) = (open_refuses s l ≡ false) × (bench_of b ≡ (opening_of s l).bench)

-- each count goes into a byte
pub record Few (c : Counted) : Type 0 where
  pub supporters : c.supporters ≤ most_senders
  pub senders : c.senders ≤ most_senders
