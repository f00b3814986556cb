-- Where an entry stands by its number after the first calls of a roll (document 02, request 1). Assumes nothing.
use Rattle.std.specs.Prelude.{ℕ, Bool, List, [], ◌∷◌, ◌≡◌, length}
use Rattle.message.specs.Choice.{pick}
use Rattle.message.specs.Numbers.{put, bytes_for}
use Rattle.bench.specs.Calls.{Reply, refused, done, took, acted, found}
use Rattle.bench.specs.ByRecord.{find_of}
use Rattle.run.specs.RollText.{fresh_lists}
use Rattle.run.specs.Held.{held_at, nothing_shown}

-- The place of its block, and its place inside that block in two bytes, lowest first; or the refusal's number. Find answers nothing else
-- (EntryLaws: entry_answers).
abbrev pub entry_bytes : Reply → List ℕ
entry_bytes (refused number) = number ∷ []
entry_bytes done = []
entry_bytes (took w) = []
entry_bytes (acted made) = []
entry_bytes (found block inside) = block ∷ bytes_for 2 inside

-- the most bytes of an answer
abbrev pub entry_length : ℕ
entry_length = 3

-- what Find answers after the first k calls
abbrev pub entry_of : List ℕ → ℕ → ℕ → Reply
entry_of s k e = (find_of (held_at s fresh_lists k) e).answer.reply

-- ---- the promise

-- The answer stands at the front of the buffer, and all else there is as it was; where none is given, all of it is, and the answer is 0.
pub record GivesEntry (ungiven : Bool) (r : Reply) (before : List ℕ) (n : ℕ) (after : List ℕ) : Type 0 where
  pub answered : n ≡ pick ungiven 0 (length (entry_bytes r))
  pub buffer : after ≡ pick ungiven before (put before 0 (entry_bytes r))

abbrev pub no_entry : List ℕ → ℕ → List ℕ → Bool
no_entry s k before = nothing_shown entry_length s k fresh_lists before
