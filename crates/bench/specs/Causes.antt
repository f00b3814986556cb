-- The causes of refusal of the five calls, in the order of document 01 ("From the input", "From the state": "First failure is given"). Each
-- of the two descriptions of a bench hands in what it finds by itself: whether a beat is above the last begun, whether a gathering is under
-- way, at which beat, and which log stands decided. 9 and 8 are of the record and its lists, and stand before these where a call is made on
-- a record. Assumes nothing.
use Rattle.std.specs.Prelude.{ℕ, Bool, not, List, [], ◌∷◌, ◌++◌, leb, ltb, length}
use Rattle.message.specs.Causes.{Cause, by}
use Rattle.message.specs.Logs.{Log}
use Rattle.message.specs.Message.{meaning_in, read_causes}
use Rattle.bench.specs.Layout.{Lent, short_lists, out_of_range, most_bytes}
use Rattle.bench.specs.Calendar.{last_beat}
use Rattle.bench.specs.Calls.{open_to}
use Rattle.bench.specs.Totals.{entries_in}

-- Open: n or own number out of range; a lent list too short
abbrev pub open_causes : ℕ → ℕ → Lent → List Cause
open_causes n own l = by 7 (out_of_range n own) ∷ by 8 (short_lists l) ∷ []

-- Begin: a beat past the last; a beat not above the last begun
abbrev pub begin_causes : ℕ → Bool → List Cause
begin_causes beat not_above = by 10 (ltb last_beat beat) ∷ by 20 not_above ∷ []

-- a message, of n benches at a beat: 1 to 6; its view not open to its kind at this beat
abbrev pub message_causes : ℕ → ℕ → List ℕ → List Cause
message_causes n beat bytes = read_causes n bytes ++ (by 21 (not (open_to (meaning_in bytes) beat)) ∷ [])

-- Receive: no gathering under way; then those of the message
abbrev pub receive_causes : Bool → ℕ → ℕ → List ℕ → List Cause
receive_causes idle n beat bytes = by 22 idle ∷ message_causes n beat bytes

-- Act: an outgoing buffer too short for the longest message; no gathering under way
abbrev pub act_causes : List ℕ → Bool → List Cause
act_causes out idle = by 11 (ltb (length out) most_bytes) ∷ by 22 idle ∷ []

-- Find: an entry number at or above the total of the decided log
abbrev pub find_causes : Log → ℕ → List Cause
find_causes L e = by 23 (leb (entries_in L) e) ∷ []
