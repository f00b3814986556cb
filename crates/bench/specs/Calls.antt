-- The calls with what was handed in, and what they give back (document 01, "Four calls" and the words on demand 3). Assumes nothing.
use Rattle.std.specs.Prelude.{ℕ, ◌^◌, ◌<◌, Bool, List, [], ◌∷◌, length}
use Rattle.std.proofs.Math.Option.{Option}
use Rattle.message.specs.Numbers.{AllBelow}
use Rattle.message.specs.Logs.{Block, Log, counts_of}
use Rattle.message.specs.Message.{agreement_number, Meaning, log_message, proposal_message}
use Rattle.agreement.specs.Filing.{Word}
use Rattle.bench.specs.Calendar.{log_window, proposal_window}
use Rattle.bench.specs.Layout.{Lent}
use Rattle.bench.specs.Record.{Bench}
use Rattle.bench.specs.Totals.{block_holding, inside_block}

-- A beat; a message by its bytes, wherever they lay; an offered block (name zero for none), a priority and the outgoing buffer; the number
-- of an entry to find.
pub data Call : Type 0 where
  begin : ℕ → Call
  receive : List ℕ → Call
  act : Block → ℕ → List ℕ → Call
  find : ℕ → Call

-- the outgoing buffer handed in; only an Act has one
abbrev pub buffer_in : Call → List ℕ
buffer_in (begin b) = []
buffer_in (receive bytes) = []
buffer_in (act block priority out) = out
buffer_in (find e) = []

-- What a call answers: a refusal's number alone; that it opened or began; the word on a message taken; what an Act made; where an entry was
-- found, by its block's place and its place inside that block.
pub data Reply : Type 0 where
  refused : ℕ → Reply
  done : Reply
  took : Word → Reply
  acted : Option Meaning → Reply
  found : ℕ → ℕ → Reply

-- An answer, and what the outgoing buffer holds afterwards.
pub record Answer : Type 0 where
  pub reply : Reply
  pub out : List ℕ

-- What stands between two calls: the bench's record, and the lent lists.
pub record State : Type 0 where
  pub bench : Bench
  pub lent : Lent

-- What filing, seeing, making and deciding use of it: they read and change nothing else.
pub record Core : Type 0 where
  pub bench : Bench
  pub names : List ℕ
  pub counts : List ℕ

abbrev pub core_of : State → Core
core_of s = record { bench = s.bench; names = s.lent.names; counts = s.lent.counts }

-- What Open gives; what each other call leaves and answers.
pub record Opening : Type 0 where
  pub reply : Reply
  pub bench : Bench

pub record Step : Type 0 where
  pub held : State
  pub answer : Answer

-- 21: whether a message's view is open to its kind at a beat
abbrev pub open_to : Meaning → ℕ → Bool
open_to (log_message m) b = log_window (agreement_number m) b
open_to (proposal_message m priority) b = proposal_window m.view b

-- where entry e of a log is found
abbrev pub found_in : Log → ℕ → Reply
found_in L e = found (block_holding (counts_of L) e) (inside_block (counts_of L) e)

-- ---- the code's types: there are no other calls

abbrev pub Typed : Call → Type 0
Typed (begin b) = b < 2 ^ 32
Typed (receive bytes) = AllBelow 256 bytes × (length bytes < 2 ^ 64)
Typed (act block priority out) =
    (block.name < 2 ^ 64) × (block.count < 2 ^ 16) × (priority < 2 ^ 64) × AllBelow 256 out × (length out < 2 ^ 64)
Typed (find e) = e < 2 ^ 32

abbrev pub AllTyped : List Call → Type 0
AllTyped [] = Unit {0}
AllTyped (c ∷ cs) = Typed c × AllTyped cs

-- what is handed to Open: n and own number of a byte each, names of 64 bits, counts of 16, totals of 32
pub record TypedOpen (n own : ℕ) (l : Lent) : Type 0 where
  pub n_fits : n < 2 ^ 8
  pub own_fits : own < 2 ^ 8
  pub names : AllBelow (2 ^ 64) l.names × (length l.names < 2 ^ 64)
  pub counts : AllBelow (2 ^ 16) l.counts × (length l.counts < 2 ^ 64)
  pub totals : AllBelow (2 ^ 32) l.totals × (length l.totals < 2 ^ 64)
