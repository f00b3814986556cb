-- The premises of demand 3 can be met while a rule-breaker lies, a bench sleeps and calls are refused, and logs are then decided: four
-- benches, of which 0, 1 and 2 keep the rules.
--   Number 3 tells two stories, both as LOGs of view 0: [7] to bench 0 first and [8] to bench 1 first, then to each the other.
--   Bench 0 proposes block 5 with 3 entries at beat 0 and block 6 with none at beat 4.
--   Benches 0 and 1 are awake at beats 0 to 10. All three vote for [5] at beat 1; 0 and 1 vote for [5,6] at beats 5 and 9.
--   Bench 2 is awake at beats 1, 2 and 6 only: it takes snapshot one of view 0 and sleeps over snapshot two. It begins beat 4, is handed
-- [7] there, and does not act in it.
--   [5] is decided at beat 6 by all three, [5,6] at beat 10 by 0 and 1.
-- Each looks entries up, in a gathering and at rest, before anything is decided and after.
-- Refused: 20, a beat begun before; 21, a LOG too early and one too late; 1, bytes that are no message; 11, a short buffer; 22, a second
-- Act and a message before any Begin; 23, an entry at or above the total.
-- Assumes nothing.
use Prim.Native.Nat.{ℕ}
use native.Mathlib.Omega.{arith}
use mathlib.Core.Path.{◌≡◌, refl, sym, ap, subst, ◌∙◌}
use mathlib.Core.List.Memᴰ
use mathlib.Core.List.{List, [], ◌∷◌, map}
use mathlib.Core.Option.{some, none}
use mathlib.Core.Bool.{false}
use lib.Dec.{ltb}
use lib.ListN.{replicate, get_or}
use Rattle.message.specs.Logs.{Log}
use Rattle.message.specs.Message.{log_message, proposal_message, bytes_of}
use Rattle.agreement.specs.Filing.{first, second}
use Rattle.bench.specs.Layout.{most_bytes}
use Rattle.bench.specs.Terms.{Terms, seat_of}
use Rattle.bench.specs.Calls.{Call, begin, receive, act, Reply, refused, done, took, acted, Answer, AllTyped, State, find, found}
use Rattle.bench.specs.Acts.{Stand}
use Rattle.bench.specs.History.{ActRecord, after, answers_to, stand}
use Rattle.bench.specs.ByRecord.{standing}
use Rattle.demand.specs.Places.{Decides}
use Rattle.demand.specs.Premises.{Volume, Keeps, Delivery, Numbers, Majority}
use Rattle.demand.specs.Demand.{Event, calls_in, runs, OpenedAs, Claim}
use Rattle.demand.specs.TheBench.{the_bench}
use Rattle.demand.proofs.Checks.{delivered, numbered, majority}
use Rattle.demand.proofs.TypedChecks.{volume_typed}
use Rattle.demand.proofs.Computed.{computed}
use Rattle.demand.proofs.Decided.{mem_decides}
use Rattle.demand.proofs.TheDemand.{bench_demand3}

-- ---- the calls

-- four benches
abbrev pub four : Terms
four = record { n = 4 }

abbrev pub five : Log
five = record { name = 5; count = 3 } ∷ []

abbrev pub five_six : Log
five_six = record { name = 5; count = 3 } ∷ record { name = 6; count = 0 } ∷ []

abbrev pub seven : Log
seven = record { name = 7; count = 1 } ∷ []

abbrev eight : Log
eight = record { name = 8; count = 1 } ∷ []

-- an Act that offers a block, with priority 9; one that offers none
unfoldable pub offers : ℕ → ℕ → Call
offers name entries = act (record { name = name; count = entries }) 9 (replicate most_bytes 0)

unfoldable pub acts : Call
unfolding offers
acts = offers 0 0

-- a LOG of a view from a sender, and bench 0's PROPOSAL of a view
unfoldable pub log : ℕ → ℕ → Log → Call
unfolding computed
log v s L = receive (bytes_of (log_message (record { sender = s; view = v; log = L })))

unfoldable pub proposal : ℕ → Log → Call
unfolding computed
proposal v L = receive (bytes_of (proposal_message (record { sender = 0; view = v; log = L }) 9))

unfoldable pub bench0 : List Call
unfolding offers acts log
bench0 =
    find 0 ∷ begin 0 ∷ offers 5 3
    ∷ begin 1 ∷ acts
    ∷ begin 2 ∷ log 0 1 five ∷ log 0 2 five ∷ log 0 3 seven ∷ acts
    ∷ begin 3 ∷ log 0 3 eight ∷ acts ∷ begin 3
    ∷ begin 4 ∷ log 1 3 seven ∷ offers 6 0
    ∷ begin 5 ∷ acts
    ∷ begin 6 ∷ log 1 1 five_six ∷ acts ∷ find 2 ∷ find 3
    ∷ begin 7 ∷ acts
    ∷ begin 8 ∷ find 0 ∷ acts
    ∷ begin 9 ∷ acts
    ∷ begin 10 ∷ log 2 1 five_six ∷ acts ∷ find 2 ∷ find 3
    ∷ []

unfoldable pub bench1 : List Call
unfolding acts log proposal
bench1 =
    begin 0 ∷ receive (1 ∷ 2 ∷ 3 ∷ []) ∷ acts
    ∷ begin 1 ∷ proposal 0 five ∷ act (record { name = 0; count = 0 }) 0 [] ∷ acts
    ∷ begin 2 ∷ log 0 0 five ∷ log 0 2 five ∷ log 0 3 eight ∷ acts ∷ acts
    ∷ begin 3 ∷ log 0 3 seven ∷ acts
    ∷ begin 4 ∷ acts
    ∷ begin 5 ∷ proposal 1 five_six ∷ acts
    ∷ begin 6 ∷ log 1 0 five_six ∷ acts ∷ find 1
    ∷ begin 7 ∷ log 0 3 seven ∷ acts
    ∷ begin 8 ∷ acts
    ∷ begin 9 ∷ acts
    ∷ begin 10 ∷ log 2 0 five_six ∷ acts
    ∷ []

unfoldable pub bench2 : List Call
unfolding acts log proposal
bench2 =
    proposal 0 five
    ∷ begin 1 ∷ proposal 0 five ∷ acts
    ∷ begin 2 ∷ log 0 0 five ∷ log 0 1 five ∷ acts
    ∷ begin 4 ∷ log 0 3 seven
    ∷ begin 6 ∷ find 2 ∷ log 0 3 eight ∷ log 1 0 five_six ∷ log 1 1 five_six ∷ acts ∷ find 2 ∷ find 4294967295
    ∷ []

abbrev pub volume : Volume
volume = record { terms = four; keeper = λ i. ltb i 3; calls = λ i. get_or (bench0 ∷ bench1 ∷ bench2 ∷ []) i [] }

-- ---- the premises, each computed

pub delivers : Delivery volume
unfolding computed bench0 bench1 bench2
delivers = delivered volume refl

pub numbers : Numbers volume
unfolding computed bench0 bench1 bench2
numbers = numbered volume refl

-- in views 0, 1 and 2
pub outnumbers : Majority volume
unfolding computed bench0 bench1 bench2
outnumbers = majority volume 3 refl

-- ---- what comes of it

pub keep0 : Keeps volume 0
keep0 = (omega arith, refl)

keep1 : Keeps volume 1
keep1 = (omega arith, refl)

keep2 : Keeps volume 2
keep2 = (omega arith, refl)

-- the logs decided
pub decide0 : Decides (seat_of four 0) bench0 five × Decides (seat_of four 0) bench0 five_six
unfolding computed bench0
decide0 = (
  mem_decides (seat_of four 0) bench0 five (Memᴰ.tail (Memᴰ.head refl)),
  mem_decides (seat_of four 0) bench0 five_six (Memᴰ.head refl),
)

pub decide1 : Decides (seat_of four 1) bench1 five × Decides (seat_of four 1) bench1 five_six
unfolding computed bench1
decide1 = (
  mem_decides (seat_of four 1) bench1 five (Memᴰ.tail (Memᴰ.head refl)),
  mem_decides (seat_of four 1) bench1 five_six (Memᴰ.head refl),
)

pub decide2 : Decides (seat_of four 2) bench2 five
unfolding computed bench2
decide2 = mem_decides (seat_of four 2) bench2 five (Memᴰ.head refl)

-- what stands at the end, and no mark
abbrev pub unmarked : Log → Stand
unmarked L = record { log = L; parted = false }

pub stands : (stand (seat_of four 0) bench0 ≡ unmarked five_six) × (stand (seat_of four 1) bench1 ≡ unmarked five_six) ×
    (stand (seat_of four 2) bench2 ≡ unmarked five)
unfolding computed bench0 bench1 bench2
stands = (refl, refl, refl)

-- the beats in which each was awake, the last first
abbrev beats : ℕ → List Call → List ℕ
beats own cs = map (λ (d : ActRecord). d.beat) (after (seat_of four own) cs).actions

pub awake_at :
    (beats 0 bench0 ≡ 10 ∷ 9 ∷ 8 ∷ 7 ∷ 6 ∷ 5 ∷ 4 ∷ 3 ∷ 2 ∷ 1 ∷ 0 ∷ [])
    × (beats 1 bench1 ≡ 10 ∷ 9 ∷ 8 ∷ 7 ∷ 6 ∷ 5 ∷ 4 ∷ 3 ∷ 2 ∷ 1 ∷ 0 ∷ [])
    × (beats 2 bench2 ≡ 6 ∷ 2 ∷ 1 ∷ [])
unfolding computed bench0 bench1 bench2
awake_at = (refl, refl, refl)

-- the numbers of the refused calls, in their order
abbrev or_number : Reply → List ℕ → List ℕ
or_number (refused k) ks = k ∷ ks
or_number done ks = ks
or_number (took w) ks = ks
or_number (acted m) ks = ks
or_number (found block inside) ks = ks

abbrev pub refusals : List Answer → List ℕ
refusals [] = []
refusals (a ∷ as') = or_number a.reply (refusals as')

pub refuses :
    (refusals (answers_to (seat_of four 0) bench0) ≡ 23 ∷ 20 ∷ 21 ∷ 23 ∷ 23 ∷ [])
    × (refusals (answers_to (seat_of four 1) bench1) ≡ 1 ∷ 11 ∷ 22 ∷ 21 ∷ [])
    × (refusals (answers_to (seat_of four 2) bench2) ≡ 22 ∷ 23 ∷ 23 ∷ [])
unfolding computed bench0 bench1 bench2
refuses = (refl, refl, refl)

-- all that bench 2 answers
pub answers2 :
    map (λ (a : Answer). a.reply) (answers_to (seat_of four 2) bench2)
    ≡ refused 22
    ∷ done ∷ took first ∷ acted (some (log_message (record { sender = 2; view = 0; log = five })))
    ∷ done ∷ took first ∷ took first ∷ acted none
    ∷ done ∷ took first
    ∷ done ∷ refused 23 ∷ took second ∷ took first ∷ took first ∷ acted none ∷ found 0 2 ∷ refused 23
    ∷ []
unfolding computed bench2
answers2 = refl

-- where bench 0 found what it looked up
abbrev or_place : Reply → List (ℕ × ℕ) → List (ℕ × ℕ)
or_place (refused k) ps = ps
or_place done ps = ps
or_place (took w) ps = ps
or_place (acted m) ps = ps
or_place (found block inside) ps = (block, inside) ∷ ps

abbrev places : List Answer → List (ℕ × ℕ)
places [] = []
places (a ∷ as') = or_place a.reply (places as')

pub finds0 : places (answers_to (seat_of four 0) bench0) ≡ (0, 2) ∷ (0, 0) ∷ (0, 2) ∷ []
unfolding computed bench0
finds0 = refl

-- all numbers fit their types
pub typed : (i : ℕ) → Keeps volume i → AllTyped (volume.calls i)
unfolding computed bench0 bench1 bench2
typed = volume_typed volume refl

-- ---- the theorem, used: three benches opened on lists of any contents that went through these calls, each by value or on a lent record

module _ (from : ℕ → State) (events : ℕ → List Event)
    (opened : (i : ℕ) → Keeps volume i → OpenedAs the_bench four i (from i))
    (went : (i : ℕ) → Keeps volume i → calls_in (events i) ≡ volume.calls i) where
  -- no two decided logs conflict, and all that demand 3 claims besides
  pub claimed : Claim the_bench volume from events
  claimed = bench_demand3.agrees volume from events opened went typed delivers numbers outnumbers

  stood : (i : ℕ) → Keeps volume i → standing (runs the_bench (from i) (events i)) ≡ stand (seat_of four i) (volume.calls i)
  stood i k =
      bench_demand3.alone.stood four i (from i) (events i) (opened i k) (subst AllTyped (sym (went i k)) (typed i k))
      ∙ ap (stand (seat_of four i)) (went i k)

  -- what stands in their records and lists at the end is [5,6], [5,6] and [5], with no mark
  pub standing-logs :
      (standing (runs the_bench (from 0) (events 0)) ≡ unmarked five_six)
      × (standing (runs the_bench (from 1) (events 1)) ≡ unmarked five_six)
      × (standing (runs the_bench (from 2) (events 2)) ≡ unmarked five)
  standing-logs = (stood 0 keep0 ∙ stands.0, stood 1 keep1 ∙ stands.1, stood 2 keep2 ∙ stands.2)
