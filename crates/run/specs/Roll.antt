-- A roll: a recorded list of calls as bytes (document 01, "The roll"). Its form is judged whole, before any call is made. Assumes nothing.
use Rattle.std.specs.Prelude.{ℕ, zero, suc, ◌+◌, ◌*◌, Bool, not, ◌&&◌, ◌||◌, List, [], ◌∷◌, eqb, leb, ltb, length, get_or, take, drop, replicate}
use Rattle.message.specs.Choice.{pick}
use Rattle.message.specs.Numbers.{number_in}
use Rattle.message.specs.Logs.{Block}
use Rattle.bench.specs.Layout.{most_bytes}
use Rattle.bench.specs.Calls.{Call, begin, receive, act}

-- ---- sizes first

abbrev pub most_roll : ℕ
most_roll = 65536

abbrev pub most_events : ℕ
most_events = 1024

-- "n, own number (one byte each), event count e .. (two bytes)"
abbrev pub sizes_length : ℕ
sizes_length = 4

abbrev pub benches_of : List ℕ → ℕ
benches_of s = get_or s 0 0

abbrev pub own_of : List ℕ → ℕ
own_of s = get_or s 1 0

abbrev pub events_of : List ℕ → ℕ
events_of s = number_in 2 s 2

-- ---- then e marks of four bytes: "kind, zero, body length in two bytes"

abbrev pub mark_length : ℕ
mark_length = 4

abbrev pub mark_place : ℕ → ℕ
mark_place i = sizes_length + mark_length * i

abbrev pub kind_at : List ℕ → ℕ → ℕ
kind_at s i = get_or s (mark_place i) 0

abbrev pub zero_at : List ℕ → ℕ → ℕ
zero_at s i = get_or s (mark_place i + 1) 0

abbrev pub length_at : List ℕ → ℕ → ℕ
length_at s i = number_in 2 s (mark_place i + 2)

abbrev pub begin_kind : ℕ
begin_kind = 1

abbrev pub receive_kind : ℕ
receive_kind = 2

abbrev pub act_kind : ℕ
act_kind = 3

-- a begin has a beat of 4 bytes, a receive a message of 0 to 656, an act a name of 8, a priority of 8 and a count of 2
unfoldable pub right_body : ℕ → ℕ → Bool
right_body kind k =
    (eqb kind begin_kind && eqb k 4) || ((eqb kind receive_kind && leb k most_bytes) || (eqb kind act_kind && eqb k 18))

unfoldable pub wrong_mark : List ℕ → ℕ → Bool
wrong_mark s i = not (eqb (zero_at s i) 0) || not (right_body (kind_at s i) (length_at s i))

-- ---- then e bodies in step

abbrev pub bodies_place : List ℕ → ℕ
bodies_place s = mark_place (events_of s)

-- Of the m events from event i on, whose bodies start at place a: a mark is wrong, or the last body does not end where the roll ends.
unfoldable pub misfits : List ℕ → ℕ → ℕ → ℕ → Bool
misfits s i a zero = not (eqb a (length s))
misfits s i a (suc m) = wrong_mark s i || misfits s (i + 1) (a + length_at s i) m

-- "A roll of any other form": too short for its sizes, too long, too many events, a wrong mark, bodies cut short or bytes left over
unfoldable pub misshapen : List ℕ → Bool
misshapen s =
    (ltb (length s) sizes_length || ltb most_roll (length s))
    || (ltb most_events (events_of s) || misfits s 0 (bodies_place s) (events_of s))

-- ---- the calls

-- the outgoing buffer that an act is lent
abbrev pub fresh_buffer : List ℕ
fresh_buffer = replicate most_bytes 0

-- an act's body at place a: "name 8, priority 8, count 2"
abbrev pub offered_at : List ℕ → ℕ → Block
offered_at s a = record { name = number_in 8 s a; count = number_in 2 s (a + 16) }

abbrev pub priority_at : List ℕ → ℕ → ℕ
priority_at s a = number_in 8 s (a + 8)

-- event i, whose body starts at place a
unfoldable pub call_at : List ℕ → ℕ → ℕ → Call
call_at s i a =
    pick (eqb (kind_at s i) begin_kind) (begin (number_in 4 s a))
    (pick (eqb (kind_at s i) receive_kind) (receive (take (length_at s i) (drop a s)))
    (act (offered_at s a) (priority_at s a) fresh_buffer))

-- the m events from event i on
unfoldable pub calls_from : List ℕ → ℕ → ℕ → ℕ → List Call
calls_from s i a zero = []
calls_from s i a (suc m) = call_at s i a ∷ calls_from s (i + 1) (a + length_at s i) m

-- all of them
abbrev pub calls_of : List ℕ → List Call
calls_of s = calls_from s 0 (bodies_place s) (events_of s)
