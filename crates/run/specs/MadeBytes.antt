-- The message that an Act of a roll made (document 01, "Four calls" and "The roll"). Assumes nothing.
use Rattle.std.specs.Prelude.{ℕ, ◌≤◌, Bool, not, ◌||◌, List, ◌≡◌, eqb, leb, length}
use Rattle.std.proofs.Math.Option.{Option, some, none}
use Rattle.message.specs.Choice.{pick}
use Rattle.message.specs.Message.{Meaning, bytes_of}
use Rattle.bench.specs.Layout.{Lent}
use Rattle.bench.specs.Calls.{Reply, refused, done, took, acted, found, State, Step}
use Rattle.bench.specs.Acts.{out_after}
use Rattle.bench.specs.ByRecord.{act_of}
use Rattle.run.specs.Roll.{events_of, kind_at, act_kind, misshapen, offered_at, priority_at}
use Rattle.run.specs.RollText.{fresh_lists}
use Rattle.run.specs.Held.{held_after, first_calls, body_place, opened_on, open_refuses}

-- what an answer says was made; a refused call made nothing
abbrev pub made_by : Reply → Option Meaning
made_by (refused number) = none
made_by done = none
made_by (took w) = none
made_by (acted m) = m
made_by (found block inside) = none

-- there is no event k, or it is no Act
unfoldable pub no_act : List ℕ → ℕ → Bool
no_act s k = leb (events_of s) k || not (eqb (kind_at s k) act_kind)

-- event k as an Act with this outgoing buffer, after the calls before it, from x on
abbrev pub act_after : State → List ℕ → ℕ → List ℕ → Step
act_after x s k out = act_of (held_after x (first_calls s k)) (offered_at s (body_place s k)) (priority_at s (body_place s k)) out

-- what it makes at a bench opened on these lists
unfoldable pub made_on : List ℕ → Lent → ℕ → List ℕ → Option Meaning
made_on s l k out = pick (open_refuses s l) none (made_by (act_after (opened_on s l) s k out).answer.reply)

-- What event k of a roll makes. A buffer under 656 bytes is refused by 11, so that nothing is made.
unfoldable pub made_of : List ℕ → ℕ → List ℕ → Option Meaning
made_of s k out = pick (misshapen s || no_act s k) none (made_on s fresh_lists k out)

-- ---- the promise

-- how many bytes it has; no message is empty, so 0 says that none was made
abbrev pub made_length : Option Meaning → ℕ
made_length none = 0
made_length (some m) = length (bytes_of m)

-- The message stands at the front of the lent buffer, whole, and all else there is as it was; where none was made, all of it is.
pub record GivesMade (made : Option Meaning) (before : List ℕ) (r : ℕ) (after : List ℕ) : Type 0 where
  pub answered : r ≡ made_length made
  pub fits : r ≤ length after
  pub buffer : after ≡ out_after made before
