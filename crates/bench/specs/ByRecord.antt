-- The five calls by the record and the lent lists, for every record and all lists: what the code is proved equal to, and what demand 3 is
-- proved of (document 01, "Four calls", "Calendar of acts", "From the input", "From the state"; document 02, request 1). In each, the first
-- failure is given, and a refusal leaves record, lists and buffer as they were. Assumes nothing.
use Rattle.std.specs.Prelude.{ℕ, zero, suc, ◌+◌, Bool, List, [], ◌∷◌, ◌++◌, length}
use Rattle.std.proofs.Math.Option.{Option, some, none}
use Rattle.message.specs.Choice.{pick}
use Rattle.message.specs.Causes.{Cause, by, judged_by}
use Rattle.message.specs.Numbers.{put}
use Rattle.message.specs.Logs.{Block, Log, is_prefix, names_of, counts_of}
use Rattle.message.specs.Message.{agreement_number, Meaning, log_message, proposal_message, bytes_of, meaning_in}
use Rattle.message.specs.Store.{log_at}
use Rattle.agreement.specs.Limits.{most_senders}
use Rattle.agreement.specs.Sets.{is_yes}
use Rattle.agreement.specs.Record.{empty_agreement, SnapshotNumber, with_snapshot, Agreement}
use Rattle.agreement.specs.Filing.{Word, Filing, file_of}
use Rattle.agreement.specs.Grades.{grade_of}
use Rattle.agreement.specs.Proposals.{empty_proposals, ProposalFiling, file_proposal_of, Proposals}
use Rattle.agreement.specs.Kept.{kept_proposal}
use Rattle.agreement.specs.Heard.{vote_among}
use Rattle.bench.specs.Layout.{logs_place, proposals_place, decided_place, Lent, short_lists}
use Rattle.bench.specs.Calendar.{logs_shut, proposals_shut, view_of, place_in, Act, act_at, grade_read, snapshot_taken}
use Rattle.bench.specs.Totals.{totals_of, unlike, extended}
use Rattle.bench.specs.Calls.{refused, done, took, acted, State, Core, core_of, Answer, Opening, Step, found_in}
use Rattle.bench.specs.Causes.{open_causes, begin_causes, receive_causes, act_causes, find_causes}
use Rattle.bench.specs.Acts.{Seen, used_first, used_of_grade, is_view, makes, decides, Stand, out_after}
use Rattle.bench.specs.Record.{fresh_bench, agreement_of, proposals_of, beat_of, not_above_last, idle, with_agreement, with_proposals}
use Rattle.bench.specs.Record.{with_gathering_over, with_decided, with_parted, beyond, Bench}

-- refused by k: nothing else changes
abbrev pub refuse : State → List ℕ → ℕ → Step
refuse s out k = record { held = s; answer = record { reply = refused k; out = out } }

-- What filing or an act leaves of the core, and what is answered.
pub record Effect : Type 0 where
  pub core : Core
  pub answer : Answer

-- The call that does it, and leaves these totals.
abbrev pub step_by : List ℕ → Effect → Step
step_by totals e = record {
  held = record { bench = e.core.bench; lent = record { names = e.core.names; counts = e.core.counts; totals = totals } };
  answer = e.answer;
}

-- ---- what stands

-- the decided log as record and lists hold it
abbrev pub decided_log : Core → Log
decided_log c = log_at c.names c.counts decided_place c.bench.decided

-- that log, and the mark
abbrev pub stand_of : Core → Stand
stand_of c = record { log = decided_log c; parted = is_yes c.bench.parted }

abbrev pub standing : State → Stand
standing s = stand_of (core_of s)

-- 9, "tested after 8": a total below the decided length is not the decided log's
abbrev pub wrong_totals : State → Bool
wrong_totals s = unlike (totals_of (decided_log (core_of s))) s.lent.totals

-- 9, 8 and 9 by the totals come first in each call on a record.
abbrev pub record_causes : State → List Cause
record_causes s = by 9 (beyond s.bench) ∷ by 8 (short_lists s.lent) ∷ by 9 (wrong_totals s) ∷ []

-- ---- Open

-- The record beside a refusal is of no bench: its n is 0, and every call refuses it by 9.
abbrev pub not_opened : ℕ → Opening
not_opened k = record { reply = refused k; bench = fresh_bench 0 0 }

-- 7, 8; the lists are not written
unfoldable pub open_of : ℕ → ℕ → Lent → Opening
open_of n own l = judged_by (open_causes n own l) not_opened (record { reply = done; bench = fresh_bench n own })

-- ---- Begin

-- "Views no longer open are forgotten."
unfoldable pub kept_agreement : ℕ → Agreement → Agreement
kept_agreement beat g = pick (logs_shut g.marks.view beat) (empty_agreement 0) g

unfoldable pub kept_proposals : ℕ → Proposals → Proposals
kept_proposals beat g = pick (proposals_shut g.marks.view beat) (empty_proposals 0) g

-- the gathering of the beat is under way
abbrev pub begun_bench : Bench → ℕ → Bench
begun_bench b beat = record {
  n = b.n;
  own = b.own;
  next = beat + 1;
  gathering = 1;
  even = kept_agreement beat b.even;
  odd = kept_agreement beat b.odd;
  proposals = kept_proposals beat b.proposals;
  decided = b.decided;
  parted = b.parted;
}

abbrev pub begun : State → ℕ → Step
begun s beat = record { held = record { bench = begun_bench s.bench beat; lent = s.lent }; answer = record { reply = done; out = [] } }

-- 9, 8, 9 by the totals, 10, 20
abbrev pub begin_rows : State → ℕ → List Cause
begin_rows s beat = record_causes s ++ begin_causes beat (not_above_last s.bench beat)

-- the lists are not written
unfoldable pub begin_of : State → ℕ → Step
begin_of s beat = judged_by (begin_rows s beat) (refuse s []) (begun s beat)

-- ---- filing

-- what filing comes to: the word, and what is held afterwards
pub record Outcome : Type 0 where
  pub word : Word
  pub held : Core

abbrev pub log_outcome : Core → ℕ → Filing → Outcome
log_outcome c v f = record {
  word = f.word;
  held = record { bench = with_agreement c.bench v f.agreement; names = f.names; counts = f.counts };
}

abbrev pub proposal_outcome : Core → ProposalFiling → Outcome
proposal_outcome c f = record {
  word = f.word;
  held = record { bench = with_proposals c.bench f.proposals; names = f.names; counts = f.counts };
}

-- a LOG of view v from sender i, with its bytes, in that view's agreement
abbrev pub file_log : Core → List ℕ → ℕ → ℕ → Outcome
file_log c bytes v i = log_outcome c v (file_of (agreement_of c.bench v) c.names c.counts (logs_place v) bytes i)

-- a PROPOSAL among that view's proposals
abbrev pub file_proposal : Core → List ℕ → ℕ → ℕ → ℕ → Outcome
file_proposal c bytes v i priority =
    proposal_outcome c (file_proposal_of (proposals_of c.bench v) c.names c.counts proposals_place bytes i priority)

-- by its kind: one rule for messages received and for one's own
unfoldable pub file_message : Core → List ℕ → Meaning → Outcome
file_message c bytes (log_message m) = file_log c bytes (agreement_number m) m.sender
file_message c bytes (proposal_message m priority) = file_proposal c bytes m.view m.sender priority

-- ---- Receive

-- filed: the word is answered
abbrev pub taken : Outcome → Effect
taken f = record { core = f.held; answer = record { reply = took f.word; out = [] } }

-- 9, 8, 9 by the totals, 22, 1 to 6, 21
abbrev pub receive_rows : State → List ℕ → List Cause
receive_rows s bytes = record_causes s ++ receive_causes (idle s.bench) s.bench.n (beat_of s.bench) bytes

-- the totals are not written
unfoldable pub receive_of : State → List ℕ → Step
receive_of s bytes =
    judged_by (receive_rows s bytes) (refuse s []) (step_by s.lent.totals (taken (file_message (core_of s) bytes (meaning_in bytes))))

-- ---- what an act of view v sees

-- the log that it uses, by the agreement of the view before
unfoldable pub used_of : Core → ℕ → Act → Option Log
used_of c zero a = used_first a
used_of c (suc u) a = used_of_grade (grade_of c.names c.counts (logs_place u) (agreement_of c.bench u)) (grade_read a)

abbrev pub seen_of : Core → ℕ → Act → Seen
seen_of c v a = record {
  used = used_of c v a;
  choose = vote_among most_senders (kept_proposal c.names c.counts proposals_place (proposals_of c.bench v));
}

-- ---- Act

-- A decision does to record and lists what `settle` does to what stands (Settling: decision_settled): it extends the decided log and
-- replaces it, is a prefix of it and changes nothing, or sets the mark.
unfoldable pub settled : Core → Option Log → Core
settled c none = c
settled c (some L) =
    pick (is_prefix (decided_log c) L)
    (record {
      bench = with_decided c.bench (length L);
      names = put c.names decided_place (names_of L);
      counts = put c.counts decided_place (counts_of L);
    })
    (pick (is_prefix L (decided_log c)) c (record { bench = with_parted c.bench; names = c.names; counts = c.counts }))

-- a snapshot of GA v
unfoldable pub snapped_by : SnapshotNumber → ℕ → Core → Core
snapped_by k v c =
    pick (is_view v)
    (record { bench = with_agreement c.bench v (with_snapshot k (agreement_of c.bench v)); names = c.names; counts = c.counts })
    c

-- if one is taken
abbrev pub snapped : Option SnapshotNumber → ℕ → Core → Core
snapped none v c = c
snapped (some k) v c = snapped_by k v c

-- what an act changes besides filing what it makes: it decides first, and then takes its snapshot
unfoldable pub changed : Core → ℕ → Act → Core
changed c v a = snapped (snapshot_taken a) v (settled c (decides (seen_of c v a) a))

-- What is made is filed from its bytes, and not judged by 1 to 6 again: names are used as they stand in the lists. Within the limits of 9
-- the bytes hold a log.
abbrev pub with_made : Core → Option Meaning → Core
with_made c none = c
with_made c (some m) = (file_message c (bytes_of m) m).held

-- the act of a row of the calendar, in view v, once the gathering is over
unfoldable pub acted_of : Core → Block → ℕ → List ℕ → ℕ → Act → Effect
acted_of c block priority out v a =
    let made : Option Meaning = makes c.bench.own v block priority (seen_of c v a) a in
    record { core = with_made (changed c v a) made; answer = record { reply = acted made; out = out_after made out } }

-- the gathering is over
abbrev pub over : Core → Core
over c = record { bench = with_gathering_over c.bench; names = c.names; counts = c.counts }

-- the act of the beat, by its row
abbrev pub acted_now : Core → Block → ℕ → List ℕ → Effect
acted_now c block priority out = acted_of (over c) block priority out (view_of (beat_of c.bench)) (act_at (place_in (beat_of c.bench)))

-- The totals past the old decided length are written, as many as what then stands has: none, where no decision extends it (TotalLaws:
-- totals_kept).
abbrev pub act_step : State → Effect → Step
act_step s e = step_by (extended s.lent.totals s.bench.decided (decided_log e.core)) e

-- 9, 8, 9 by the totals, 11, 22
abbrev pub act_rows : State → List ℕ → List Cause
act_rows s out = record_causes s ++ act_causes out (idle s.bench)

unfoldable pub act_of : State → Block → ℕ → List ℕ → Step
act_of s block priority out = judged_by (act_rows s out) (refuse s out) (act_step s (acted_now (core_of s) block priority out))

-- ---- Find

-- 9, 8, 9 by the totals, 23
abbrev pub find_rows : State → ℕ → List Cause
find_rows s e = record_causes s ++ find_causes (decided_log (core_of s)) e

-- record and lists are not written
abbrev pub found_step : State → ℕ → Step
found_step s e = record { held = s; answer = record { reply = found_in (decided_log (core_of s)) e; out = [] } }

unfoldable pub find_of : State → ℕ → Step
find_of s e = judged_by (find_rows s e) (refuse s []) (found_step s e)
