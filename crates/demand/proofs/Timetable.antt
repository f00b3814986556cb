-- What safety needs of a calendar, along any list of calls: when votes are made and on which reading each rests, and when logs are decided.
-- Agreements go by number, and the one that a vote of k + 1 rests on is k. A calendar shows this of its rows (FourBeats); nothing here says
-- which beats. Assumes nothing.
use Prim.Native.Nat.{ℕ, suc, ◌≤◌, ◌<◌}
use mathlib.Core.Path.{◌≡◌}
use mathlib.Core.List.{List}
use Rattle.message.specs.Logs.{Log, Prefix}
use Rattle.message.specs.Message.{Content}
use Rattle.agreement.specs.Reading.{Grade}
use Rattle.agreement.specs.Heard.{heard_logs, voters_of, reading_from}
use Rattle.agreement.proofs.GradeSources.{log_by}
use Rattle.bench.specs.Terms.{Terms, Seat, seat_of, weight_of}
use Rattle.bench.specs.Calls.{Call}
use Rattle.bench.specs.History.{after}
use Rattle.demand.specs.Places.{ActsAfter, MakesAfter, TakesAfter, Decides}
use Rattle.demand.proofs.Snapshots.{GradedAt}

-- K has the grade in what is read of agreement k after `pre`, with the snapshot taken after `start`
abbrev pub GradeAfter : Seat → List Call → ℕ → List Call → Log → Type 0
GradeAfter S pre k start K =
    Grade S.terms.n (weight_of S.terms)
    (reading_from (heard_logs (after S pre).heard k) (voters_of (heard_logs (after S start).heard k))) K

pub record Timetable (T : Terms) : Type 1 where
  -- the last agreement; of agreement k the beat of its votes, that of the snapshot on which the next votes rest, and the last at which its
  -- LOGs are taken
  pub last : ℕ
  pub input : ℕ → ℕ
  pub look : ℕ → ℕ
  pub close : ℕ → ℕ
  pub input_look : (k : ℕ) → input k < look k
  pub look_next : (k : ℕ) → look k ≤ input (suc k)
  pub next_close : (k : ℕ) → input (suc k) ≤ close k
  -- no LOG is taken before the votes of its agreement
  pub taken_late : {own b : ℕ} {cs pre : List Call} {m : Content} → TakesAfter (seat_of T own) cs pre b m → input m.view ≤ b
  -- a vote bears its maker's number, is made at the beat of votes, and extends the longest log of what it rests on
  pub made_own : {own b : ℕ} {cs pre : List Call} {m : Content} → MakesAfter (seat_of T own) cs pre b m → m.sender ≡ own
  pub made_beat : {own b : ℕ} {cs pre : List Call} {m : Content} → MakesAfter (seat_of T own) cs pre b m → b ≡ input m.view
  pub made_lock : {own b k : ℕ} {cs pre : List Call} {L : Log} → MakesAfter (seat_of T own) cs pre b (log_by own (suc k) L)
      → (K : Log) × GradedAt (seat_of T own) cs pre k (look k) K × Prefix K L
  -- whoever has one votes; in the first agreement none is needed
  pub first_made : {own : ℕ} {cs pre : List Call} → ActsAfter (seat_of T own) cs pre (input 0)
      → (L : Log) × MakesAfter (seat_of T own) cs pre (input 0) (log_by own 0 L)
  pub next_made : {own k : ℕ} {cs start pre : List Call} → suc k ≤ last → ActsAfter (seat_of T own) cs start (look k)
      → ActsAfter (seat_of T own) cs pre (input (suc k))
      → (K : Log) → GradeAfter (seat_of T own) pre k start K
      → (L : Log) × MakesAfter (seat_of T own) cs pre (input (suc k)) (log_by own (suc k) L)
  -- a log that is decided is the longest of some agreement's reading, on a snapshot before the look, read after the next votes
  pub agreement : {own : ℕ} {cs : List Call} {L : Log} → Decides (seat_of T own) cs L → ℕ
  pub snapshot : {own : ℕ} {cs : List Call} {L : Log} → Decides (seat_of T own) cs L → ℕ
  pub in_range : {own : ℕ} {cs : List Call} {L : Log} (d : Decides (seat_of T own) cs L) → agreement d ≤ last
  pub after_input : {own : ℕ} {cs : List Call} {L : Log} (d : Decides (seat_of T own) cs L) → input (agreement d) < snapshot d
  pub before_look : {own : ℕ} {cs : List Call} {L : Log} (d : Decides (seat_of T own) cs L) → snapshot d < look (agreement d)
  pub after_lock : {own : ℕ} {cs : List Call} {L : Log} (d : Decides (seat_of T own) cs L) → input (suc (agreement d)) < d.beat
  pub in_window : {own : ℕ} {cs : List Call} {L : Log} (d : Decides (seat_of T own) cs L) → d.beat ≤ close (agreement d)
  pub graded : {own : ℕ} {cs : List Call} {L : Log} (d : Decides (seat_of T own) cs L)
      → GradedAt (seat_of T own) cs d.pre (agreement d) (snapshot d) L
