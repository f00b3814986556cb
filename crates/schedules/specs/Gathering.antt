-- A gathering with one message on one lent record, as demand 3 has it: events of `the_bench` on a lent record, each from what the last one
-- left. Assumes nothing.
use Rattle.std.specs.Prelude.{ℕ, List, [], ◌∷◌, ◌≡◌}
use Rattle.message.specs.Logs.{Block}
use Rattle.bench.specs.Calls.{Call, begin, receive, act, Answer, State}
use Rattle.bench.specs.Answers.{state_of, start_reply, taken_reply, made_reply}
use Rattle.bench.specs.declared.Bench.{Bench}
use Rattle.demand.specs.Demand.{Event, onLent, runs, answers}
use Rattle.demand.specs.TheBench.{the_bench}
use Rattle.schedules.specs.declared.gathering.Gathered.{Gathered}

abbrev pub lent : Call → Event
lent c = record { way = onLent; what = c }

abbrev pub gathering_of : ℕ → List ℕ → Block → ℕ → List ℕ → List Event
gathering_of beat message block priority out = lent (begin beat) ∷ lent (receive message) ∷ lent (act block priority out) ∷ []

-- the code's three answers, with the outgoing buffer as Act left it
abbrev pub answers_in : Gathered → List ℕ → List Answer
answers_in r out =
    record { reply = start_reply r.started; out = [] }
    ∷ record { reply = taken_reply r.taken; out = [] }
    ∷ record { reply = made_reply out r.made; out = out }
    ∷ []

-- answers and buffer, record and lists are those of the events
pub record GatheringGives (x : State) (es : List Event) (r : Gathered) (bench : Bench) (names counts totals out : List ℕ) : Type 0 where
  pub answered : answers_in r out ≡ answers the_bench x es
  pub held : state_of bench names counts totals ≡ runs the_bench x es
