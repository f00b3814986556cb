-- Odd records within their limits, which no call refuses by 9: what each call answers on them, and the record afterwards. One table,
-- computed. Assumes nothing.
use Prim.Native.Nat.{ℕ, ◌+◌}
use mathlib.Core.List.{List, [], ◌∷◌, ◌++◌, map}
use mathlib.Core.Option.{Option, some, none}
use mathlib.Core.Path.{◌≡◌, refl}
use lib.ListN.{replicate, set}
use Rattle.message.specs.Choice as choice
use Rattle.message.specs.Limits.{most_blocks}
use Rattle.message.specs.Causes.{first_failure, judged_by}
use Rattle.message.specs.Numbers.{part, put, number_at, numbers_at, bytes_for, bytes_for_each}
use Rattle.message.specs.Logs.{Block, Log, is_prefix, same_log, in_step, names_of, counts_of}
use Rattle.message.specs.Message.{Meaning, log_message, proposal_message, message_bytes, bytes_of, malformed, meaning_in}
use Rattle.message.specs.Store.{log_at}
use Rattle.agreement.specs.Sets.{weigh, member, adding, removing}
use Rattle.agreement.specs.Reading.{may_support, supports, has_grade, under, prefixes, candidates, longer, longest_of, longest}
use Rattle.agreement.specs.Record.{empty_agreement, overlong, with_first, one as first-snapshot, with_snapshot, Agreement}
use Rattle.agreement.specs.Filing.{first, known, file_of}
use Rattle.agreement.specs.Grades.{grade_among}
use Rattle.agreement.specs.Proposals.{empty_proposals, with_proposal, file_proposal_of, best_of, Proposals}
use Rattle.agreement.specs.Kept.{kept_proposal}
use Rattle.agreement.specs.Heard.{vote_among}
use Rattle.bench.specs.Layout.{least_lent}
use Rattle.bench.specs.Totals.{totals_from, unlike}
use Rattle.bench.specs.Calls.{Reply, done, took, acted, State, Step}
use Rattle.bench.specs.Acts.{propose, vote, makes}
use Rattle.bench.specs.Record.{agreement_of, proposals_of, with_agreement, with_gathering_over, with_decided, any_place, beyond_agreement}
use Rattle.bench.specs.Record.{beyond_proposals, beyond, Bench}
use Rattle.bench.specs.ByRecord.{kept_agreement, kept_proposals, begin_of, file_message, receive_of, used_of, settled, snapped_by, changed}
use Rattle.bench.specs.ByRecord.{acted_of, act_of}
use Rattle.bench.proofs.LimitTable.{nobody, only, long, agreement, proposals}
use Rattle.bench.proofs.Order.{held}

-- ---- records and lists

-- bench 4 of 5 at a beat, with these flags of its gathering and of decisions in conflict
abbrev marked : ℕ → Agreement → Agreement → Proposals → ℕ → ℕ → Bench
marked beat even odd offered gathering parted = record {
  n = 5;
  own = 4;
  next = beat + 1;
  gathering = gathering;
  even = even;
  odd = odd;
  proposals = offered;
  decided = 0;
  parted = parted;
}

-- gathering
abbrev pub bench : ℕ → Agreement → Agreement → Proposals → Bench
bench beat even odd offered = marked beat even odd offered 1 0

-- its lists hold the block 1, count 1, everywhere
abbrev state : Bench → State
state b = held b least_lent least_lent

-- lists that hold the name zero everywhere
abbrev nameless : Bench → State
nameless b = record {
  bench = b;
  lent = record { names = replicate least_lent 0; counts = replicate least_lent 1; totals = replicate most_blocks 0 };
}

-- after an Act
abbrev rest : ℕ → Agreement → Agreement → Proposals → Bench
rest beat even odd offered = with_gathering_over (bench beat even odd offered)

-- nothing filed
abbrev blank : Agreement
blank = empty_agreement 0

abbrev quiet : Proposals
quiet = empty_proposals 0

-- of bench 2 alone: its log of view v has k blocks, and these are the flags of the snapshots, both of which are of it
abbrev flagged : ℕ → ℕ → ℕ → ℕ → Agreement
flagged v k hasone hastwo = record {
  marks = record {
    view = v;
    voters = only 2;
    equivocators = nobody;
    one = record { senders = only 2; taken = hasone };
    two =
        record { senders = only 2; taken = hastwo };
  };
  lengths = long 2 k;
}

-- the same, no snapshot taken
abbrev heard : ℕ → ℕ → Agreement
heard v k = agreement v (long 2 k) (only 2) nobody nobody nobody

-- ---- messages

abbrev block : ℕ → Block
block name = record { name = name; count = 1 }

abbrev one : Log
one = block 1 ∷ []

abbrev log : ℕ → ℕ → Log → Meaning
log sender v L = log_message (record { sender = sender; view = v; log = L })

abbrev proposal : ℕ → ℕ → Log → Meaning
proposal sender v L = proposal_message (record { sender = sender; view = v; log = L }) 9

-- ---- the rows

pub record Row : Type 0 where
  pub step : Step
  pub reply : Reply
  pub bench : Bench

abbrev begins : Bench → ℕ → Bench → Row
begins b beat after = record { step = begin_of (state b) beat; reply = done; bench = after }

abbrev takes : Bench → Meaning → Reply → Bench → Row
takes b m r after = record { step = receive_of (state b) (bytes_of m); reply = r; bench = after }

-- block 6 is offered, of priority 9
abbrev acts_on : State → Option Meaning → Bench → Row
acts_on s made after = record { step = act_of s (block 6) 9 (replicate 656 7); reply = acted made; bench = after }

abbrev acts : Bench → Option Meaning → Bench → Row
acts b made after = acts_on (state b) made after

abbrev pub rows : List Row
rows =
    -- A slot of view 2 knows this LOG. A slot of another view of the same parity is read as empty: the LOG is first, and takes the slot.
    takes (bench 9 (heard 2 1) blank quiet) (log 2 2 one) (took known) (bench 9 (heard 2 1) blank quiet)
    ∷ takes (bench 9 (heard 0 1) blank quiet) (log 2 2 one) (took first) (bench 9 (heard 2 1) blank quiet)
    ∷ takes (bench 9 (heard 4 7) blank quiet) (log 2 2 one) (took first) (bench 9 (heard 2 1) blank quiet)
    ∷ takes (bench 5 blank (heard 3 1) quiet) (log 2 1 one) (took first) (bench 5 blank (heard 1 1) quiet)
    -- What stands in the slot of the other parity is not read either, and stays;
    ∷ takes (bench 9 blank (heard 2 1) quiet) (log 2 2 one) (took first) (bench 9 (heard 2 1) (heard 2 1) quiet)
    -- and another view's logs give no candidate, lock or decision; the snapshot is of nobody.
    ∷ acts (bench 8 blank (flagged 1 1 1 1) quiet) (some (proposal 4 2 (one ++ (block 6 ∷ []))))
    (rest 8 blank (flagged 1 1 1 1) (with_proposal (empty_proposals 2) 4 2 9))
    ∷ acts (bench 8 blank (flagged 3 1 1 1) quiet) none (rest 8 blank (flagged 3 1 1 1) quiet)
    ∷ acts (bench 9 blank (flagged 3 1 1 1) quiet) none (rest 9 blank (flagged 3 1 1 1) quiet)
    ∷ acts (bench 10 (heard 4 1) (flagged 3 1 1 1) quiet) none
    (rest 10 (with_snapshot first-snapshot (empty_agreement 2)) (flagged 3 1 1 1) quiet)
    -- Proposals of another view: the same.
    ∷ takes (bench 8 blank blank (proposals 3 (long 2 1) (only 2) nobody)) (proposal 2 2 one) (took first)
    (bench 8 blank blank (with_proposal (empty_proposals 2) 2 1 9))
    ∷ acts (bench 1 blank blank (proposals 3 (long 2 1) (only 2) nobody)) (some (log 4 0 []))
    (rest 1 (with_first (empty_agreement 0) 4 0) blank (proposals 3 (long 2 1) (only 2) nobody))
    -- A view of the future survives Begin, in whichever slot; an open one stays up to its last beat, and is forgotten past it.
    ∷ begins (bench 0 (heard 7 1) (heard 8 1) (proposals 9 (long 2 1) (only 2) nobody)) 5
    (bench 5 (heard 7 1) (heard 8 1) (proposals 9 (long 2 1) (only 2) nobody))
    ∷ begins (bench 0 (heard 1 1) (heard 1 1) (proposals 1 (long 2 1) (only 2) nobody)) 5
    (bench 5 (heard 1 1) (heard 1 1) (proposals 1 (long 2 1) (only 2) nobody))
    ∷ begins (bench 0 (heard 1 1) (heard 1 1) (proposals 1 (long 2 1) (only 2) nobody)) 6 (bench 6 (heard 1 1) (heard 1 1) quiet)
    ∷ begins (bench 0 (heard 1 1) (heard 1 1) quiet) 10 (bench 10 (heard 1 1) (heard 1 1) quiet)
    ∷ begins (bench 0 (heard 1 1) (heard 2 1) quiet) 11 (bench 11 (empty_agreement 0) (heard 2 1) quiet)
    ∷ begins (bench 0 (heard 2 1) (heard 1 1) quiet) 11 (bench 11 (heard 2 1) (empty_agreement 0) quiet)
    -- A snapshot set without its flag gives no lock, nor a decision; with its flag it does.
    ∷ acts (bench 5 (flagged 0 1 1 0) blank quiet) none (rest 5 (flagged 0 1 1 0) blank quiet)
    ∷ acts (bench 5 (flagged 0 1 0 1) blank quiet) (some (log 4 1 one))
    (rest 5 (flagged 0 1 0 1) (with_first (empty_agreement 1) 4 1) quiet)
    ∷ acts (bench 6 (flagged 0 1 0 1) blank quiet) none
    (rest 6 (flagged 0 1 0 1) (with_snapshot first-snapshot (empty_agreement 1)) quiet)
    ∷ acts (bench 6 (flagged 0 1 1 0) blank quiet) none
    (with_decided (rest 6 (flagged 0 1 1 0) (with_snapshot first-snapshot (empty_agreement 1)) quiet) 1)
    -- A flag is yes for every number but zero, and stays as it is: of the snapshots, of the gathering, and of decisions in conflict.
    ∷ acts (bench 5 (flagged 0 1 0 2) blank quiet) (some (log 4 1 one))
    (rest 5 (flagged 0 1 0 2) (with_first (empty_agreement 1) 4 1) quiet)
    ∷ acts (bench 6 (flagged 0 1 4294967295 0) blank quiet) none
    (with_decided (rest 6 (flagged 0 1 4294967295 0) (with_snapshot first-snapshot (empty_agreement 1)) quiet) 1)
    ∷ takes (marked 9 (heard 2 1) blank quiet 2 65535) (log 2 2 one) (took known) (marked 9 (heard 2 1) blank quiet 2 65535)
    ∷ acts (marked 4 (agreement 0 (long 2 64) nobody nobody nobody nobody) blank quiet 65535 2) none
    (marked 4 (agreement 0 (long 2 64) nobody nobody nobody nobody) blank quiet 0 2)
    -- A length of a sender not filed is ignored, and first writes over it; so with a proposal's length and priority.
    ∷ acts (bench 4 (agreement 0 (long 2 64) nobody nobody nobody nobody) blank quiet) none
    (rest 4 (agreement 0 (long 2 64) nobody nobody nobody nobody) blank quiet)
    ∷ acts (bench 4 (agreement 0 (set (long 31 64) 2 1) (only 2) nobody nobody nobody) blank quiet)
    (some (proposal 4 1 (one ++ (block 6 ∷ []))))
    (rest 4 (agreement 0 (set (long 31 64) 2 1) (only 2) nobody nobody nobody) blank (with_proposal (empty_proposals 1) 4 2 9))
    ∷ takes (bench 4 (agreement 0 (long 2 64) nobody nobody nobody nobody) blank quiet) (log 2 0 one) (took first)
    (bench 4 (heard 0 1) blank quiet)
    ∷ acts (bench 1 blank blank (proposals 0 (long 2 1) nobody nobody)) (some (log 4 0 []))
    (rest 1 (with_first (empty_agreement 0) 4 0) blank (proposals 0 (long 2 1) nobody nobody))
    ∷ takes (bench 1 blank blank (proposals 0 (long 2 64) nobody nobody)) (proposal 2 0 one) (took first)
    (bench 1 blank blank (with_proposal (proposals 0 (long 2 64) nobody nobody) 2 1 9))
    -- A zero name in the lists is proposed and voted as it stands, and the message filed.
    ∷ acts_on (nameless (bench 4 (heard 0 1) blank quiet)) (some (proposal 4 1 (block 0 ∷ block 6 ∷ [])))
    (rest 4 (heard 0 1) blank (with_proposal (empty_proposals 1) 4 2 9))
    ∷ acts_on (nameless (bench 5 (flagged 0 1 1 1) blank quiet)) (some (log 4 1 (block 0 ∷ [])))
    (rest 5 (flagged 0 1 1 1) (with_first (empty_agreement 1) 4 1) quiet)
    -- A proposal set aside, filed or not, is not voted for, and one more of its sender is known; filed alone it is.
    ∷ acts (bench 1 blank blank (proposals 0 (long 2 1) nobody (only 2))) (some (log 4 0 []))
    (rest 1 (with_first (empty_agreement 0) 4 0) blank (proposals 0 (long 2 1) nobody (only 2)))
    ∷ acts (bench 1 blank blank (proposals 0 (long 2 1) (only 2) (only 2))) (some (log 4 0 []))
    (rest 1 (with_first (empty_agreement 0) 4 0) blank (proposals 0 (long 2 1) (only 2) (only 2)))
    ∷ acts (bench 1 blank blank (proposals 0 (long 2 1) (only 2) nobody)) (some (log 4 0 one))
    (rest 1 (with_first (empty_agreement 0) 4 1) blank (proposals 0 (long 2 1) (only 2) nobody))
    ∷ takes (bench 1 blank blank (proposals 0 (long 2 1) nobody (only 2))) (proposal 2 0 one) (took known)
    (bench 1 blank blank (proposals 0 (long 2 1) nobody (only 2)))
    ∷ []

abbrev found : Row → Reply × Bench
found r = (r.step.answer.reply, r.step.held.bench)

abbrev stated : Row → Reply × Bench
stated r = (r.reply, r.bench)

pub rows_hold : map found rows ≡ map stated rows
unfolding
    begin_of receive_of unlike totals_from judged_by first_failure malformed meaning_in choice.any_of act_of acted_of changed snapped_by settled
    used_of file_message
    kept_agreement kept_proposals agreement_of proposals_of with_agreement any_place beyond_agreement beyond_proposals beyond propose vote makes
    vote_among kept_proposal
    file_proposal_of best_of grade_among file_of overlong may_support supports has_grade under prefixes candidates longer longest_of longest weigh
    member adding removing log_at message_bytes
    bytes_of part put number_at numbers_at bytes_for bytes_for_each is_prefix same_log in_step names_of counts_of
rows_hold = refl
