-- Demand 3: what is claimed of a machine, that is of five calls as functions on a bench's record and its lent lists. Assumes nothing.
use Rattle.std.specs.Prelude.{ℕ, false, List, [], ◌∷◌, ◌++◌, ◌≡◌, length, take}
use Rattle.std.proofs.Math.Option.{some, none}
use Rattle.message.specs.Logs.{Block, Log, Conflict}
use Rattle.agreement.specs.Sets.{is_yes}
use Rattle.bench.specs.Terms.{Terms, seat_of}
use Rattle.bench.specs.Layout.{Lent}
use Rattle.bench.specs.Totals.{totals_of}
use Rattle.bench.specs.Calls.{Call, begin, receive, act, find, refused, done, Answer, State, Opening, Step, Typed, AllTyped, TypedOpen}
use Rattle.bench.specs.History.{open_refusal, refusal, after, answers_to, stand}
use Rattle.bench.specs.ByRecord.{standing}
use Rattle.demand.specs.Places.{Decides, LongestDecided}
use Rattle.demand.specs.Premises.{Volume, seat, Keeps, Delivery, Numbers, Majority}

-- ---- machines

-- The form of a call: on a record by value, or on a lent one. Both count as that call. A look-up has one form.
pub data Way : Type 0 where
  byValue onLent : Way

pub record Machine : Type 0 where
  pub open' : Terms → ℕ → Lent → Opening
  pub begin' : Way → State → ℕ → Step
  pub receive' : Way → State → List ℕ → Step
  pub act' : Way → State → Block → ℕ → List ℕ → Step
  pub find' : State → ℕ → Step

abbrev pub call : Machine → Way → State → Call → Step
call M w x (begin b) = M.begin' w x b
call M w x (receive bytes) = M.receive' w x bytes
call M w x (act block priority out) = M.act' w x block priority out
call M w x (find e) = M.find' x e

-- ---- a list of calls

pub record Event : Type 0 where
  pub way : Way
  pub what : Call

unfoldable pub calls_in : List Event → List Call
calls_in [] = []
calls_in (e ∷ es) = e.what ∷ calls_in es

-- Each call gets the record and lists as the last one left them, and nobody else writes these meanwhile.
unfoldable pub runs : Machine → State → List Event → State
runs M x [] = x
runs M x (e ∷ es) = runs M (call M e.way x e.what).held es

unfoldable pub answers : Machine → State → List Event → List Answer
answers M x [] = []
answers M x (e ∷ es) = (call M e.way x e.what).answer ∷ answers M (call M e.way x e.what).held es

-- a bench as its Open gave it, on three lent lists of any contents
pub record OpenedAs (M : Machine) (T : Terms) (own : ℕ) (x : State) : Type 0 where
  pub typed : TypedOpen T.n own x.lent
  pub given : M.open' T own x.lent ≡ record { reply = done; bench = x.bench }

-- ---- of each bench alone, for every list of calls, without premises

-- Open refuses by 7 and 8, the first that fails, and under no other condition; else it gives a bench with an empty decided log and no mark.
pub record OpensRightly (M : Machine) : Type 0 where
  pub refuses :
      (T : Terms) (own : ℕ) (l : Lent) (k : ℕ) → TypedOpen T.n own l → open_refusal (seat_of T own) l ≡ some k
      → (M.open' T own l).reply ≡ refused k
  pub opens :
      (T : Terms) (own : ℕ) (l : Lent) → TypedOpen T.n own l → open_refusal (seat_of T own) l ≡ none
      → ((M.open' T own l).reply ≡ done) × ((M.open' T own l).bench.decided ≡ 0) × (is_yes (M.open' T own l).bench.parted ≡ false)

pub record Faithful (M : Machine) : Type 0 where
  pub opens : OpensRightly M
  -- the answers, made messages and outgoing buffers are the ones worked out from the list of calls
  pub answered :
      (T : Terms) (own : ℕ) (x : State) (es : List Event) → OpenedAs M T own x → AllTyped (calls_in es)
      → answers M x es ≡ answers_to (seat_of T own) (calls_in es)
  -- what stands in record and lists, and the mark, are what the decisions come to
  pub stood :
      (T : Terms) (own : ℕ) (x : State) (es : List Event) → OpenedAs M T own x → AllTyped (calls_in es)
      → standing (runs M x es) ≡ stand (seat_of T own) (calls_in es)
  -- a refusal leaves record and lists (and the buffer, by `answered`)
  pub refusals :
      (T : Terms) (own : ℕ) (x : State) (es : List Event) (w : Way) (c : Call) (k : ℕ) → OpenedAs M T own x → AllTyped (calls_in es)
      → Typed c
      → refusal (seat_of T own) (after (seat_of T own) (calls_in es)) c ≡ some k → (call M w (runs M x es) c).held ≡ runs M x es
  -- the totals are those of what stands, worked out afresh
  pub totalled :
      (T : Terms) (own : ℕ) (x : State) (es : List Event) → OpenedAs M T own x → AllTyped (calls_in es)
      → take (length (stand (seat_of T own) (calls_in es)).log) (runs M x es).lent.totals
      ≡ totals_of (stand (seat_of T own) (calls_in es)).log
  -- a look-up leaves record and lists
  pub finds :
      (T : Terms) (own : ℕ) (x : State) (es : List Event) (w : Way) (e : ℕ) → OpenedAs M T own x → AllTyped (calls_in es) → Typed (find e)
      → (call M w (runs M x es) (find e)).held ≡ runs M x es
  -- Begin does not write the lists
  pub begins :
      (T : Terms) (own : ℕ) (x : State) (es : List Event) (w : Way) (b : ℕ) → OpenedAs M T own x → AllTyped (calls_in es) → Typed (begin b)
      → (call M w (runs M x es) (begin b)).held.lent ≡ (runs M x es).lent

-- ---- of a volume, under the premises

-- `events i` is what bench i went through from `from i`, which its Open gave.
pub record Claim (M : Machine) (W : Volume) (from : ℕ → State) (events : ℕ → List Event) : Type 0 where
  -- "no two logs decided in these lists conflict, at two such benches or at one, in any views"
  pub no_conflict :
      (i j : ℕ) → Keeps W i → Keeps W j → (L K : Log) → Decides (seat W i) (W.calls i) L → Decides (seat W j) (W.calls j) K → Conflict L K
      → ⊥
  -- "after its list, or any start of it, each bench's standing decided log is the longest it decided there, empty if none"; and no mark is
  -- set
  pub stands :
      (i : ℕ) → Keeps W i → (pre post : List Event) → events i ≡ pre ++ post
      → LongestDecided (seat W i) (calls_in pre) (standing (runs M (from i) pre)).log × ((standing (runs M (from i) pre)).parted ≡ false)

-- ---- the demand

pub record Demand3 (M : Machine) : Type 0 where
  pub alone : Faithful M
  pub agrees :
      (W : Volume) (from : ℕ → State) (events : ℕ → List Event)
      → ((i : ℕ) → Keeps W i → OpenedAs M W.terms i (from i))
      → ((i : ℕ) → Keeps W i → calls_in (events i) ≡ W.calls i)
      → ((i : ℕ) → Keeps W i → AllTyped (W.calls i))
      → Delivery W → Numbers W → Majority W → Claim M W from events
