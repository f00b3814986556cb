-- Many benches, as far as safety depends on them: what they hear of each other's LOGs, how they vote, and what they decide. Assumes
-- nothing.
use Prim.Native.Nat.{ℕ, suc, ◌≤◌, ◌<◌}
use mathlib.Core.Path.{◌≡◌}
use mathlib.Core.Logic.{◌⊎◌, ◌≢◌}
use mathlib.Core.Bool.{Bool, true, false}
use Rattle.message.specs.Logs.{Log, Prefix}
use Rattle.agreement.specs.Sets.{weigh}
use Rattle.agreement.specs.Reading.{Reading, Grade, LongestLog}

-- Beats and agreements go by number, and nothing here says which beats: a calendar gives these (FourBeats). Throughout, r and t are
-- benches, x is a sender, k an agreement, and b, c, s, g are beats.

-- two different logs of one sender: both taken, both sent on
pub record Twice (Took Sent : Log → Type 0) : Type 0 where
  pub first : Log
  pub second : Log
  pub took_first : Took first
  pub took_second : Took second
  pub sent_first : Sent first
  pub sent_second : Sent second
  pub differ : first ≢ second

-- What rule-keepers hear. Of a bench that is not awake nothing is asked: it may have missed anything.
pub record Hearing : Type 1 where
  -- awake r k b: rule-keeper r begins beat b, acts in it, and reads agreement k in that act
  pub awake : ℕ → ℕ → ℕ → Bool
  -- the last beat at which LOGs of agreement k are taken
  pub close : ℕ → ℕ
  -- took r b k x L: when r acts at beat b, the LOG of x in k with log L is among those it has taken or made
  pub took : ℕ → ℕ → ℕ → ℕ → Log → Type 0
  -- sent r b k x L: rule-keeper r has made that LOG, or passed it on, by beat b
  pub sent : ℕ → ℕ → ℕ → ℕ → Log → Type 0
  -- S, V and the logs of the senders in V, by bench, beat and agreement, as in a Reading
  pub heard : ℕ → ℕ → ℕ → ℕ → Bool
  pub single : ℕ → ℕ → ℕ → ℕ → Bool
  pub log : ℕ → ℕ → ℕ → ℕ → Log
  -- a sender is in S exactly if some LOG of it is taken, and one such was passed on
  pub heard_of_lem : {r b k x : ℕ} {L : Log} → awake r k b ≡ true → took r b k x L → heard r b k x ≡ true
  pub heard_some : {r b k x : ℕ} → awake r k b ≡ true → heard r b k x ≡ true → (L : Log) × took r b k x L × sent r b k x L
  -- of a sender in V one log is taken and no other, and it was passed on
  pub single_some : {r b k x : ℕ} → awake r k b ≡ true → single r b k x ≡ true → took r b k x (log r b k x) × sent r b k x (log r b k x)
  pub single_only : {r b k x : ℕ} {L : Log} → awake r k b ≡ true → single r b k x ≡ true → took r b k x L → L ≡ log r b k x
  -- a sender in S and not in V is an equivocator, and two logs that show it were passed on
  pub single_or : {r b k x : ℕ} → awake r k b ≡ true → heard r b k x ≡ true → (single r b k x ≡ true) ⊎ Twice (took r b k x) (sent r b k x)
  -- what is taken stays taken
  pub grows : {r b c k x : ℕ} {L : Log} → awake r k b ≡ true → awake r k c ≡ true → b ≤ c → took r b k x L → took r c k x L
  -- what a bench sent it has itself
  pub kept : {r b c k x : ℕ} {L : Log} → sent r b k x L → awake r k c ≡ true → b < c → took r c k x L
  -- the premise on delivery: the others have it at their later acts, while the agreement takes LOGs
  pub delivery : {r t b c k x : ℕ} {L : Log} → sent r b k x L → r ≢ t → awake t k c ≡ true → b < c → c ≤ close k → took t c k x L

-- what r reads of agreement k in its act at beat g, with the snapshot of beat s (for grade 0, s is g)
unfoldable pub reading : (H : Hearing) (r k s g : ℕ) → Reading
reading H r k s g = record { heard = H.heard r g k; single = H.single r g k; snap = H.single r s k; log = H.log r g k }

-- r takes the snapshot and reads the grade, in that order and in time
pub record Reads (H : Hearing) (r k s g : ℕ) : Type 0 where
  pub snaps : H.awake r k s ≡ true
  pub acts : H.awake r k g ≡ true
  pub order : s ≤ g
  pub in_window : g ≤ H.close k

-- How rule-keepers vote.
pub record Execution (H : Hearing) : Type 1 where
  -- senders are below n, each has its weight, and no vote is made after the agreement `last`
  pub n : ℕ
  pub w : ℕ → ℕ
  pub last : ℕ
  -- the beat at which votes of k are made, and that of the snapshot on which the votes of k + 1 rest
  pub input : ℕ → ℕ
  pub look : ℕ → ℕ
  pub input_look : (k : ℕ) → input k < look k
  pub look_next : (k : ℕ) → look k ≤ input (suc k)
  pub next_close : (k : ℕ) → input (suc k) ≤ H.close k
  -- who counts for the majority of k, and who against it
  pub member : ℕ → ℕ → Bool
  pub breaker : ℕ → ℕ → Bool
  -- voted x k L: rule-keeper x made the LOG of k with log L
  pub voted : ℕ → ℕ → Log → Type 0
  pub member_keeps : {k x : ℕ} → member k x ≡ true → breaker k x ≡ false
  -- a member was awake for what its vote rests on
  pub member_looks : {k x : ℕ} → member (suc k) x ≡ true → H.awake x k (look k) ≡ true
  pub member_acts : {k x : ℕ} → member (suc k) x ≡ true → H.awake x k (input (suc k)) ≡ true
  -- the premise on numbers: a LOG under the number of one who is no breaker is its vote
  pub numbers : {r b k x : ℕ} {L : Log} → H.awake r k b ≡ true → b ≤ H.close k → H.took r b k x L → breaker k x ≡ false → voted x k L
  -- of those who are no breakers only members vote; a vote is made once, and sent at its beat
  pub voted_member : {k x : ℕ} {L : Log} → voted x k L → breaker k x ≡ false → member k x ≡ true
  pub voted_once : {k x : ℕ} {L M : Log} → voted x k L → voted x k M → L ≡ M
  pub voted_sent : {k x : ℕ} {L : Log} → voted x k L → H.sent x (input k) k x L
  -- a vote extends the lock: the longest log with the grade that its voter reads in the agreement before
  pub voted_lock : {k x : ℕ} {L : Log} → voted x (suc k) L
      → (K : Log) × LongestLog n w (reading H x k (look k) (input (suc k))) K × Prefix K L
  -- every member votes that has a lock; in the first agreement none is needed
  pub votes_first : {x : ℕ} → member 0 x ≡ true → (L : Log) × voted x 0 L
  pub votes_next : {k x : ℕ} → member (suc k) x ≡ true → suc k ≤ last
      → (K : Log) → Grade n w (reading H x k (look k) (input (suc k))) K → (L : Log) × voted x (suc k) L
  -- the premise on the majority, for each agreement in which some rule-keeper is awake between its votes and its look
  pub majority : (k : ℕ) {r b : ℕ} → H.awake r k b ≡ true → input k ≤ b → b ≤ look k → k ≤ last
      → weigh n w (breaker k) < weigh n w (member k)

-- Rule-keeper r may decide L in agreement k: L has the grade, on a snapshot from before the look and read after the next votes. It need not
-- be the longest such log.
pub record Decides (H : Hearing) (R : Execution H) (r k : ℕ) (L : Log) : Type 0 where
  pub s : ℕ
  pub g : ℕ
  pub reads : Reads H r k s g
  pub after_input : R.input k < s
  pub before_look : s < R.look k
  pub after_lock : R.input (suc k) < g
  pub in_range : k ≤ R.last
  pub grade : Grade R.n R.w (reading H r k s g) L
