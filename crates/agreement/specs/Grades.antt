-- The grades of an agreement (document 01, "Counting in one agreement"): which snapshot each uses, and the log it gives. Assumes nothing.
use Rattle.std.specs.Prelude.{ℕ, zero, suc, ◌≤◌, ◌<◌, ◌||◌, List, ◌≡◌, Some, None}
use Rattle.std.specs.Prelude as std
use Rattle.std.proofs.Math.Option.{Option, some, none}
use Rattle.message.specs.Limits.{most_blocks}
use Rattle.message.specs.Choice.{pick}
use Rattle.message.specs.Logs.{Log}
use Rattle.message.specs.Store.{log_at}
use Rattle.agreement.specs.Limits.{most_senders, place_of}
use Rattle.agreement.specs.Sets.{ones, is_yes}
use Rattle.agreement.specs.Reading.{longest}
use Rattle.agreement.specs.Record.{Agreement, lacks_room, overlong, reading_of, one, two, snapshot_at, snapshot_now}
use Rattle.agreement.specs.declared.Snapshot.{Snapshot}
use Rattle.agreement.specs.declared.Marks.{Marks}
use Rattle.agreement.specs.declared.Longest.{Longest}

-- The longest log with the grade, supporters being counted among those of the snapshot. A record with a length over 64, or lists without
-- room for its logs, has none: the bench refuses both (9, 8) before it asks.
unfoldable pub grade_among : List ℕ → List ℕ → ℕ → Agreement → ℕ → Option Log
grade_among names counts base g among =
    pick (lacks_room names counts base || overlong g.lengths) none (longest most_senders ones (reading_of names counts base g among))

-- "Only with" the snapshot: none where it was not taken.
abbrev pub grade_by : List ℕ → List ℕ → ℕ → Agreement → Snapshot → Option Log
grade_by names counts base g s = pick (is_yes s.taken) (grade_among names counts base g s.senders) none

-- Which snapshot serves which grade: grade 0 none, so that all of V may support, grade 1 snapshot two, grade 2 snapshot one.
abbrev pub snapshot_for : ℕ → Marks → Snapshot
snapshot_for zero m = snapshot_now m
snapshot_for (suc zero) m = snapshot_at two m
snapshot_for (suc (suc k)) m = snapshot_at one m

abbrev pub grade_of : List ℕ → List ℕ → ℕ → Agreement → ℕ → Option Log
grade_of names counts base g k = grade_by names counts base g (snapshot_for k g.marks)

-- the code's answer, as the log it stands for: so many blocks at the sender's place
abbrev pub log_of : List ℕ → List ℕ → ℕ → std.Option Longest → Option Log
log_of names counts base None = none
log_of names counts base (Some p) = some (log_at names counts (place_of base p.sender) p.blocks)

-- where that log stands: at a sender's place, 64 blocks at the most; whose place is not fixed by the rules
abbrev pub Placed : std.Option Longest → Type 0
Placed None = Unit {0}
Placed (Some p) = (p.sender < most_senders) × (p.blocks ≤ most_blocks)

-- A call answered so.
pub record Gives (o : Option Log) (names counts : List ℕ) (base : ℕ) (r : std.Option Longest) : Type 0 where
  pub log : log_of names counts base r ≡ o
  pub placed : Placed r
