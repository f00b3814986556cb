-- The calendar (document 01, "Words", "Receive" and "Calendar of acts"): each beat of a view is named here, and in specs/ nowhere else. A
-- beat is one bound on the delay of a message, the field's Δ; a view is a round. Assumes nothing.
use Rattle.std.specs.Prelude.{ℕ, zero, suc, ◌+◌, ◌*◌, ◌/◌, ◌%◌, Bool, ◌&&◌, leb, ltb}
use Rattle.std.proofs.Math.Option.{Option, some, none}
use Rattle.agreement.specs.Record.{SnapshotNumber, one, two}
pub use Rattle.message.specs.Limits.{last_view}

-- 4v: view v starts, and proposals are made
abbrev pub view_beat : ℕ → ℕ
view_beat v = 4 * v

-- 4v+1: GA v takes inputs, the votes
abbrev pub input_beat : ℕ → ℕ
input_beat v = 4 * v + 1

-- 4v+2 and 4v+3: the snapshots of GA v
abbrev pub snapshot_one_beat : ℕ → ℕ
snapshot_one_beat v = 4 * v + 2

abbrev pub snapshot_two_beat : ℕ → ℕ
snapshot_two_beat v = 4 * v + 3

abbrev pub snapshot_beat : SnapshotNumber → ℕ → ℕ
snapshot_beat one v = snapshot_one_beat v
snapshot_beat two v = snapshot_two_beat v

-- 4v+6: the last beat at which LOGs of view v are taken, and the one at which grade 2 of GA v is read
abbrev pub close_beat : ℕ → ℕ
close_beat v = 4 * v + 6

-- the last beat of view v
abbrev pub end_beat : ℕ → ℕ
end_beat v = 4 * v + 3

-- 4,000,006: the last decision, of the last view's agreement
abbrev pub last_beat : ℕ
last_beat = close_beat last_view

-- the view of a beat, and the beat's place in it; after the last view nothing is made
abbrev pub view_of : ℕ → ℕ
view_of b = b / 4

abbrev pub place_in : ℕ → ℕ
place_in b = b % 4

-- The rows of the calendar of acts: proposing at 4v, voting at 4v+1, deciding (and snapshot one) at 4v+2, snapping (snapshot two only) at
-- 4v+3.
pub data Act : Type 0 where
  proposing voting deciding snapping : Act

abbrev pub act_at : ℕ → Act
act_at zero = proposing
act_at (suc zero) = voting
act_at (suc (suc zero)) = deciding
act_at (suc (suc (suc r))) = snapping

-- The grade of GA v-1 that the act of a row reads: the candidate's, the lock's, the decision's. Snapping reads none.
abbrev pub grade_read : Act → Option ℕ
grade_read proposing = some 0
grade_read voting = some 1
grade_read deciding = some 2
grade_read snapping = none

-- the snapshot of GA v that it takes
abbrev pub snapshot_taken : Act → Option SnapshotNumber
snapshot_taken proposing = none
snapshot_taken voting = none
snapshot_taken deciding = some one
snapshot_taken snapping = some two

-- "LOGs of view v are taken at beats 4v+1 to 4v+6, PROPOSALs at 4v and 4v+1."
abbrev pub log_window : ℕ → ℕ → Bool
log_window v b = leb (input_beat v) b && leb b (close_beat v)

abbrev pub proposal_window : ℕ → ℕ → Bool
proposal_window v b = leb (view_beat v) b && leb b (input_beat v)

-- the window has passed
abbrev pub logs_shut : ℕ → ℕ → Bool
logs_shut v b = ltb (close_beat v) b

abbrev pub proposals_shut : ℕ → ℕ → Bool
proposals_shut v b = ltb (input_beat v) b
