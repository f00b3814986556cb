-- What a bench does at a place of its list of calls, by the rules and from its list alone (document 01, the words on demand 3 after the
-- calendar). Assumes nothing.
use Rattle.std.specs.Prelude.{ℕ, ◌≤◌, true, List, [], ◌∷◌, ◌++◌, ◌⊎◌, ◌≡◌, length}
use Rattle.std.proofs.Math.Option.{some, none}
use Rattle.message.specs.Logs.{Block, Log}
use Rattle.message.specs.Message.{Content, log_message, means}
use Rattle.agreement.specs.Filing.{first, second}
use Rattle.bench.specs.Terms.{Seat, read_in}
use Rattle.bench.specs.Calendar.{log_window}
use Rattle.bench.specs.Calls.{Call, begin, receive, act, took}
use Rattle.bench.specs.History.{beat_now, refusal, answer, made_by, decided_by, after}

-- the list has the call c right after its start `pre`
abbrev pub At : List Call → List Call → Call → Type 0
At cs pre c = (post : List Call) × (cs ≡ pre ++ (c ∷ post))

module _ (S : Seat) (cs : List Call) where
  -- it begins beat b, not refused
  pub record Begins (b : ℕ) : Type 0 where
    pub pre : List Call
    pub place : At cs pre (begin b)
    pub ok : refusal S (after S pre) (begin b) ≡ none

  -- after `pre` it acts in the gathering of beat b, not refused
  pub record ActsAfter (pre : List Call) (b : ℕ) : Type 0 where
    pub block : Block
    pub priority : ℕ
    pub out : List ℕ
    pub place : At cs pre (act block priority out)
    pub ok : refusal S (after S pre) (act block priority out) ≡ none
    pub beat : (after S pre).last ≡ some b

  -- and by that act it makes the LOG m
  pub record MakesAfter (pre : List Call) (b : ℕ) (m : Content) : Type 0 where
    pub acts : ActsAfter pre b
    pub made : made_by S (after S pre) acts.block acts.priority ≡ some (log_message m)

  -- After `pre` it takes the LOG m: handed to Receive in the gathering of beat b, and "no listed cause refuses it".
  pub record TakesAfter (pre : List Call) (b : ℕ) (m : Content) : Type 0 where
    pub bytes : List ℕ
    pub place : At cs pre (receive bytes)
    pub ok : refusal S (after S pre) (receive bytes) ≡ none
    pub beat : (after S pre).last ≡ some b
    pub read : read_in S.terms bytes ≡ means (log_message m)

  -- it answers first or second to the message
  abbrev pub PassedOn : List Call → List ℕ → Type 0
  PassedOn pre bytes =
      ((answer S (after S pre) (receive bytes)).reply ≡ took first)
      ⊎ ((answer S (after S pre) (receive bytes)).reply ≡ took second)

  -- At beat b it makes the LOG m or passes it on: each *first* and *second* LOG, "in that beat", also one not acted in.
  pub data Sends (b : ℕ) (m : Content) : Type 0 where
    sends_made : (pre : List Call) → MakesAfter pre b m → Sends b m
    sends_on : (pre : List Call) (t : TakesAfter pre b m) → PassedOn pre t.bytes → Sends b m

  -- L is decided: an Act, not refused, has it to decide, "even where this changes nothing"
  pub record Decides (L : Log) : Type 0 where
    pub pre : List Call
    pub beat : ℕ
    pub acts : ActsAfter pre beat
    pub decided : decided_by S (after S pre) ≡ some L

-- The LOG m is *with* a bench that has made the calls `cs`: handed to Receive in a gathering while its view is open there.
pub record With (S : Seat) (cs : List Call) (m : Content) : Type 0 where
  pub before : List Call
  pub bytes : List ℕ
  pub place : At cs before (receive bytes)
  pub read : read_in S.terms bytes ≡ means (log_message m)
  pub gathering : (after S before).gathering ≡ true
  pub in_window : log_window m.view (beat_now (after S before)) ≡ true

-- L is the longest log decided in the list, empty if none is
pub record LongestDecided (S : Seat) (cs : List Call) (L : Log) : Type 0 where
  pub among : Decides S cs L ⊎ ((L ≡ []) × ((M : Log) → Decides S cs M → ⊥))
  pub above : (M : Log) → Decides S cs M → length M ≤ length L
