-- One agreement as a bench keeps it: `Marks`, each sender's length, and its log in the two lent lists (document 01, "Four calls" and
-- "Counting in one agreement"). Assumes nothing.
use Rattle.std.specs.Prelude.{ℕ, ◌+◌, Bool, ◌||◌, List, ltb, length, get_or, set, replicate}
use Rattle.message.specs.Limits.{most_blocks}
use Rattle.message.specs.Logs.{Log}
use Rattle.message.specs.Store.{log_at}
use Rattle.agreement.specs.Limits.{most_senders, span, place_of}
use Rattle.agreement.specs.Sets.{count, member, adding, removing}
use Rattle.agreement.specs.Reading.{Reading}
use Rattle.agreement.specs.declared.Snapshot.{Snapshot}
use Rattle.agreement.specs.declared.Marks.{Marks}

-- the code's numbers, and beside them the blocks of each sender's log
pub record Agreement : Type 0 where
  pub marks : Marks
  pub lengths : List ℕ

abbrev pub agreement_from : Marks → List ℕ → Agreement
agreement_from m lengths = record { marks = m; lengths = lengths }

abbrev pub not_taken : Snapshot
not_taken = record { senders = 0; taken = 0 }

-- nothing filed, no snapshot taken
abbrev pub empty_marks : ℕ → Marks
empty_marks v = record { view = v; voters = 0; equivocators = 0; one = not_taken; two = not_taken }

abbrev pub empty_agreement : ℕ → Agreement
empty_agreement v = agreement_from (empty_marks v) (replicate most_senders 0)

-- ---- the sets

-- V: the senders filed and not equivocators
abbrev pub is_voter : Agreement → ℕ → Bool
is_voter g i = member g.marks.voters i

-- E: the equivocators
abbrev pub is_equivocator : Agreement → ℕ → Bool
is_equivocator g i = member g.marks.equivocators i

-- S: both
abbrev pub is_sender : Agreement → ℕ → Bool
is_sender g i = is_voter g i || is_equivocator g i

-- ---- the logs

-- the log filed of sender i, of those that stand from `base` on
abbrev pub filed_log : List ℕ → List ℕ → ℕ → List ℕ → ℕ → Log
filed_log names counts base lengths i = log_at names counts (place_of base i) (get_or lengths i 0)

-- the lists have no room for a log of each sender from `base` on
abbrev pub lacks_room : List ℕ → List ℕ → ℕ → Bool
lacks_room names counts base = ltb (length names) (base + span) || ltb (length counts) (base + span)

-- some sender's length is over 64: no such log is ever filed
unfoldable pub overlong : List ℕ → Bool
overlong lengths = ltb 0 (count most_senders (λ (i : ℕ). ltb most_blocks (get_or lengths i 0)))

-- ---- what a grade reads: `among` is the snapshot that it uses

abbrev pub reading_of : List ℕ → List ℕ → ℕ → Agreement → ℕ → Reading
reading_of names counts base g among = record {
  heard = is_sender g;
  single = is_voter g;
  snap = member among;
  log = filed_log names counts base g.lengths;
}

-- ---- changes of the record

-- sender i is in V
abbrev pub heard_once : Marks → ℕ → Marks
heard_once m i = record {
  view = m.view;
  voters = adding m.voters i;
  equivocators = m.equivocators;
  one = m.one;
  two = m.two;
}

-- sender i is an equivocator: it goes from V to E
abbrev pub heard_twice : Marks → ℕ → Marks
heard_twice m i = record {
  view = m.view;
  voters = removing m.voters i;
  equivocators = adding m.equivocators i;
  one = m.one;
  two = m.two;
}

-- sender i's first log, of k blocks
abbrev pub with_first : Agreement → ℕ → ℕ → Agreement
with_first g i k = agreement_from (heard_once g.marks i) (set g.lengths i k)

-- a second of sender i: its length stays
abbrev pub with_second : Agreement → ℕ → Agreement
with_second g i = agreement_from (heard_twice g.marks i) g.lengths

-- ---- the snapshots, by number

pub data SnapshotNumber : Type 0 where
  one two : SnapshotNumber

abbrev pub snapshot_at : SnapshotNumber → Marks → Snapshot
snapshot_at one m = m.one
snapshot_at two m = m.two

-- a snapshot is V now
abbrev pub snapshot_now : Marks → Snapshot
snapshot_now m = record { senders = m.voters; taken = 1 }

abbrev pub snapped : SnapshotNumber → Marks → Marks
snapped one m = record { view = m.view; voters = m.voters; equivocators = m.equivocators; one = snapshot_now m; two = m.two }
snapped two m = record { view = m.view; voters = m.voters; equivocators = m.equivocators; one = m.one; two = snapshot_now m }

abbrev pub with_snapshot : SnapshotNumber → Agreement → Agreement
with_snapshot k g = agreement_from (snapped k g.marks) g.lengths
