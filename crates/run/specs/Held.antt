-- What a bench holds after some of the calls of a roll. Assumes nothing.
use Rattle.std.specs.Prelude.{ℕ, zero, suc, ◌+◌, Bool, not, ◌||◌, List, [], ◌∷◌, ltb, length}
use Rattle.bench.specs.Layout.{Lent}
use Rattle.bench.specs.Calls.{Call, State, Opening}
use Rattle.bench.specs.ByRecord.{open_of}
use Rattle.run.specs.Roll.{benches_of, own_of, events_of, length_at, bodies_place, misshapen, calls_from}
use Rattle.run.specs.RollText.{step_of, is_done}

-- what is held after these calls, each getting what the last one left: what demand 3 is proved of (HeldLaws: held_runs)
unfoldable pub held_after : State → List Call → State
held_after x [] = x
held_after x (c ∷ cs) = held_after (step_of x c).held cs

-- the first k calls of a roll
abbrev pub first_calls : List ℕ → ℕ → List Call
first_calls s k = calls_from s 0 (bodies_place s) k

-- Of event i, whose body starts at place a, and the m - 1 events after it: where the body after theirs starts.
unfoldable pub body_from : List ℕ → ℕ → ℕ → ℕ → ℕ
body_from s i a zero = a
body_from s i a (suc m) = body_from s (i + 1) (a + length_at s i) m

-- where the body of event k starts
abbrev pub body_place : List ℕ → ℕ → ℕ
body_place s k = body_from s 0 (bodies_place s) k

-- ---- a roll's bench, opened on lent lists of any contents

abbrev pub opening_of : List ℕ → Lent → Opening
opening_of s l = open_of (benches_of s) (own_of s) l

-- Open refuses the roll's n or own number, or the lists
abbrev pub open_refuses : List ℕ → Lent → Bool
open_refuses s l = not (is_done (opening_of s l).reply)

-- what it holds at first,
abbrev pub opened_on : List ℕ → Lent → State
opened_on s l = record { bench = (opening_of s l).bench; lent = l }

-- and after the first k calls
abbrev pub held_at : List ℕ → Lent → ℕ → State
held_at s l k = held_after (opened_on s l) (first_calls s k)

-- ---- where nothing of it is shown

-- the buffer has fewer bytes than are needed
abbrev pub scant : ℕ → List ℕ → Bool
scant least buffer = ltb (length buffer) least

-- the roll has fewer calls
abbrev pub too_few : List ℕ → ℕ → Bool
too_few s k = ltb (events_of s) k

-- one of these, or the roll has another form, or Open refuses
unfoldable pub nothing_shown : ℕ → List ℕ → ℕ → Lent → List ℕ → Bool
nothing_shown least s k l buffer = scant least buffer || (misshapen s || (too_few s k || open_refuses s l))
