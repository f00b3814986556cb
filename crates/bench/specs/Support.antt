-- What the act of a beat reads of the agreement before: the log it uses, and how many support it among how many senders (document 01,
-- "Counting in one agreement" and "Calendar of acts"). No call depends on it; it serves whoever shows a schedule. Assumes nothing.
use Rattle.std.specs.Prelude.{ℕ, zero, suc, ◌-◌, ◌≤◌, [], ◌≡◌}
use Rattle.std.proofs.Math.Option.{Option, some, none}
use Rattle.message.specs.Logs.{Log}
use Rattle.agreement.specs.Limits.{most_senders}
use Rattle.agreement.specs.Sets.{count}
use Rattle.agreement.specs.Record.{empty_agreement, is_sender, Agreement}
use Rattle.agreement.specs.Grades.{snapshot_for, Gives}
use Rattle.agreement.specs.Tally.{supporters_of}
use Rattle.bench.specs.Layout.{logs_place}
use Rattle.bench.specs.Calendar.{Act, grade_read}
use Rattle.bench.specs.Calls.{Core}
use Rattle.bench.specs.Record.{agreement_of, Bench}
use Rattle.bench.specs.ByRecord.{used_of}
use Rattle.bench.specs.declared.Counted.{Counted}

-- The agreement that the act reads, of the view before. View 0 has none before it, and snapshot two reads none: an empty one, in which
-- nobody is heard (crate calls, SupportCases: read_first, read_late).
unfoldable pub agreement_before : Bench → ℕ → Agreement
agreement_before b zero = empty_agreement 0
agreement_before b (suc u) = agreement_of b u

abbrev pub read_of_grade : Agreement → Option ℕ → Agreement
read_of_grade g none = empty_agreement 0
read_of_grade g (some k) = g

abbrev pub read_by : Bench → ℕ → Act → Agreement
read_by b v a = read_of_grade (agreement_before b v) (grade_read a)

-- who may support: those of the snapshot that serves the grade
abbrev pub among_of_grade : Agreement → Option ℕ → ℕ
among_of_grade g none = 0
among_of_grade g (some k) = (snapshot_for k g.marks).senders

-- the empty log where none has the grade
abbrev pub or_empty : Option Log → Log
or_empty none = []
or_empty (some L) = L

-- how many senders are heard, and how many of them support
abbrev pub senders_read : Core → ℕ → Act → ℕ
senders_read c v a = count most_senders (is_sender (read_by c.bench v a))

abbrev pub supporters_read : Core → ℕ → Act → ℕ
supporters_read c v a =
    let g : Agreement = read_by c.bench v a in
    supporters_of c.names c.counts (logs_place (v - 1)) g (among_of_grade g (grade_read a)) (or_empty (used_of c v a))

-- What is read is said so.
pub record SupportGives (c : Core) (v : ℕ) (a : Act) (r : Counted) : Type 0 where
  pub grade : Gives (used_of c v a) c.names c.counts (logs_place (v - 1)) r.grade
  pub supporters : r.supporters ≡ supporters_read c v a
  pub few_supporters : r.supporters ≤ most_senders
  pub senders : r.senders ≡ senders_read c v a
  pub few_senders : r.senders ≤ most_senders
