-- What an act makes and decides, given what it sees of the agreement before (document 01, "Calendar of acts"). Both descriptions of a
-- bench, by its history and by its record, use `makes` and `decides`; they differ in where an act sees what it sees. Assumes nothing.
use Rattle.std.specs.Prelude.{ℕ, Bool, true, not, ◌&&◌, List, [], ◌∷◌, ◌++◌, eqb, leb, ltb, length}
use Rattle.std.proofs.Math.Option.{Option, some, none}
use Rattle.message.specs.Limits.{most_blocks}
use Rattle.message.specs.Choice.{pick}
use Rattle.message.specs.Numbers.{put}
use Rattle.message.specs.Logs.{Block, Log, is_prefix}
use Rattle.message.specs.Message.{Meaning, log_message, proposal_message, bytes_of}
use Rattle.bench.specs.Calendar.{last_view, Act, proposing, voting, deciding, snapping}

-- What an act of view v sees: the log that it uses, which is the longest with the grade of GA v-1 that it reads, if there is one (the
-- candidate, the lock or the decision); and which log to vote for, given the lock.
pub record Seen : Type 0 where
  pub used : Option Log
  pub choose : Log → Log

-- View 0 has no agreement before it: candidate and lock are the empty log, and there is no decision.
abbrev pub used_first : Act → Option Log
used_first proposing = some []
used_first voting = some []
used_first deciding = none
used_first snapping = none

-- by the grade that the act reads, if it reads one
abbrev pub used_of_grade : (ℕ → Option Log) → Option ℕ → Option Log
used_of_grade graded none = none
used_of_grade graded (some k) = graded k

-- ---- what is made

-- a block is offered, and the candidate has room for it
abbrev pub may_propose : Block → Log → Bool
may_propose block C = not (eqb block.name 0) && ltb (length C) most_blocks

-- 4v: PROPOSAL candidate + block
unfoldable pub propose : ℕ → ℕ → Block → ℕ → Option Log → Option Meaning
propose own v block priority none = none
propose own v block priority (some C) =
    pick (may_propose block C) (some (proposal_message (record { sender = own; view = v; log = C ++ (block ∷ []) }) priority)) none

-- 4v+1: LOG, of the log chosen by the lock
unfoldable pub vote : ℕ → ℕ → (Log → Log) → Option Log → Option Meaning
vote own v choose none = none
vote own v choose (some lock) = some (log_message (record { sender = own; view = v; log = choose lock }))

-- "For v = 1,000,001 nothing is proposed, voted or snapped"
abbrev pub is_view : ℕ → Bool
is_view v = leb v last_view

abbrev pub in_views : ℕ → Option Meaning → Option Meaning
in_views v m = pick (is_view v) m none

-- by the rows of the calendar
unfoldable pub makes : ℕ → ℕ → Block → ℕ → Seen → Act → Option Meaning
makes own v block priority seen proposing = in_views v (propose own v block priority seen.used)
makes own v block priority seen voting = in_views v (vote own v seen.choose seen.used)
makes own v block priority seen deciding = none
makes own v block priority seen snapping = none

-- A made message stands at the front of the outgoing buffer; the bytes past it keep their values.
abbrev pub out_after : Option Meaning → List ℕ → List ℕ
out_after none out = out
out_after (some m) out = put out 0 (bytes_of m)

-- ---- what is decided

abbrev pub decides : Seen → Act → Option Log
decides seen proposing = none
decides seen voting = none
decides seen deciding = seen.used
decides seen snapping = none

-- The standing decided log, and the mark *parted*: a decision was in conflict with it, which is a breach of safety.
pub record Stand : Type 0 where
  pub log : Log
  pub parted : Bool

-- A decision that extends the standing log replaces it; one that is a prefix of it changes nothing; one in conflict sets the mark, for
-- good.
unfoldable pub settle : Stand → Option Log → Stand
settle st none = st
settle st (some L) =
    pick (is_prefix st.log L) (record { log = L; parted = st.parted })
    (pick (is_prefix L st.log) st (record { log = st.log; parted = true }))
