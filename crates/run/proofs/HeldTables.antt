-- The messages that the acts of document 01's sample roll made, what its bench holds between the calls, and where an entry then stands,
-- computed. Assumes nothing.
use Prim.Native.Nat.{ℕ}
use native.Mathlib.Omega.{arith}
use mathlib.Core.List.{List, [], ◌∷◌, ◌++◌, map}
use mathlib.Core.Option.{Option, some, none}
use mathlib.Core.Path.{◌≡◌, refl}
use lib.ListN.{replicate}
use Rattle.std.specs.Prelude.{Some}
use Rattle.message.specs.Choice as choice
use Rattle.message.specs.Causes.{first_failure, judged_by}
use Rattle.message.specs.Numbers.{part, put, number_at, number_in, numbers_at, bytes_for, bytes_for_each}
use Rattle.message.specs.Logs.{Log, is_prefix, same_log, in_step, names_of, counts_of}
use Rattle.message.specs.Message.{Meaning, log_message, proposal_message, message_bytes, bytes_of, malformed, meaning_in}
use Rattle.message.specs.Store.{log_at}
use Rattle.agreement.specs.Sets.{weigh, member, adding, removing}
use Rattle.agreement.specs.Reading as reading
use Rattle.agreement.specs.Reading.{may_support, supports, has_grade, under, prefixes, candidates, longest_of, longest}
use Rattle.agreement.specs.Record.{overlong}
use Rattle.agreement.specs.Filing.{file_of}
use Rattle.agreement.specs.Grades.{grade_among}
use Rattle.agreement.specs.Proposals.{file_proposal_of, best_of}
use Rattle.agreement.specs.Kept.{kept_proposal}
use Rattle.agreement.specs.Heard.{vote_among}
use Rattle.agreement.specs.Tally.{supporters_of}
use Rattle.bench.specs.Totals.{totals_from, unlike, sum_of, block_holding, inside_block}
use Rattle.bench.specs.Acts.{propose, vote, makes}
use Rattle.bench.specs.Record.{agreement_of, proposals_of, with_agreement, any_place, beyond_agreement, beyond_proposals, beyond}
use Rattle.bench.specs.ByRecord.{open_of, begin_of, kept_agreement, kept_proposals, receive_of, act_of, acted_of, used_of, settled, snapped_by}
use Rattle.bench.specs.ByRecord.{changed, file_message, find_of}
use Rattle.bench.specs.Support.{agreement_before}
use Rattle.run.specs.Roll.{fresh_buffer, right_body, wrong_mark, misfits, misshapen, call_at, calls_from}
use Rattle.run.specs.RollText.{fresh_lists}
use Rattle.run.specs.Held.{held_after, body_from, held_at}
use Rattle.run.specs.Page.{flags_from, head_bytes, sets_bytes, slot_bytes, read_bytes, page_bytes, Shows}
use Rattle.run.specs.MadeBytes.{no_act, made_on, made_of}
use Rattle.run.specs.EntryBytes.{entry_bytes, entry_of}
use Rattle.run.proofs.RollTables.{sample_roll}

-- ---- what the acts made

abbrev found : Log
found = record { name = 5; count = 1 } ∷ []

abbrev proposal : Option Meaning
proposal = some (proposal_message (record { sender = 0; view = 0; log = found }) 9)

abbrev vote_of : ℕ → Option Meaning
vote_of v = some (log_message (record { sender = 0; view = v; log = found }))

-- the acts of beats 0, 1, 2, 5 and 6; a begin; and past the last event
pub sample_made : map (λ (k : ℕ). made_of sample_roll k fresh_buffer)
    (1 ∷ 3 ∷ 5 ∷ 11 ∷ 13 ∷ 10 ∷ 14 ∷ []) ≡ proposal ∷ vote_of 0 ∷ none ∷ vote_of 1 ∷ none ∷ none ∷ none ∷ []
unfolding
    made_of made_on no_act held_after body_from misshapen misfits wrong_mark right_body call_at calls_from number_in open_of
    begin_of receive_of judged_by first_failure malformed meaning_in choice.any_of act_of acted_of changed snapped_by settled used_of file_message
    kept_agreement kept_proposals agreement_of
    proposals_of with_agreement any_place beyond_agreement beyond_proposals beyond propose vote makes vote_among kept_proposal file_proposal_of
    best_of grade_among
    file_of overlong may_support supports has_grade under prefixes candidates reading.longer longest_of longest weigh member adding removing
    log_at message_bytes
    bytes_of part put number_at numbers_at bytes_for bytes_for_each is_prefix same_log in_step names_of counts_of totals_from unlike
sample_made = refl

-- ---- the page

-- the one bench
abbrev alone : List ℕ
alone = 1 ∷ replicate 31 0

abbrev nobody : List ℕ
nobody = replicate 32 0

-- of view 0 both snapshots were taken; of view 1 none yet
abbrev slot : ℕ → ℕ → List ℕ → List ℕ
slot v taken snapshot = (v ∷ 0 ∷ 0 ∷ 0 ∷ taken ∷ taken ∷ []) ++ (alone ++ (alone ++ (nobody ++ (snapshot ++ snapshot))))

-- one block at the place of sender 0, which 1 of 1 supports
abbrev reading_then : List ℕ
reading_then = 1 ∷ 0 ∷ 1 ∷ 1 ∷ 1 ∷ []

-- after 13 calls beat 6 is begun: its act would decide
pub sample_page : Shows (held_at sample_roll fresh_lists 13) (replicate 337 0) (slot 0 1 alone ++ (slot 1 0 nobody ++ reading_then))
unfolding
    held_after call_at calls_from number_in open_of
    begin_of receive_of judged_by first_failure malformed meaning_in choice.any_of act_of acted_of changed snapped_by settled used_of file_message
    kept_agreement kept_proposals agreement_of
    proposals_of with_agreement any_place beyond_agreement beyond_proposals beyond propose vote makes vote_among kept_proposal file_proposal_of
    best_of grade_among
    file_of overlong may_support supports has_grade under prefixes candidates reading.longer longest_of longest weigh member adding removing
    log_at message_bytes
    bytes_of part put number_at numbers_at bytes_for bytes_for_each is_prefix same_log in_step names_of counts_of totals_from unlike
    flags_from head_bytes sets_bytes slot_bytes read_bytes page_bytes agreement_before supporters_of
sample_page = record {
  count = record { grade = Some (record { sender = 0; blocks = 1 }); supporters = 1; senders = 1 };
  reads = record {
    grade = record { log = refl; placed = (omega arith, omega arith) };
    supporters = refl;
    few_supporters = omega arith;
    senders = refl;
    few_senders = omega arith;
  };
  page = refl;
}

-- ---- an entry: the last act decides one block of one entry

pub sample_entry : entry_bytes (entry_of sample_roll 13 0) ∷ entry_bytes (entry_of sample_roll 14 0) ∷ entry_bytes (entry_of sample_roll 14 1) ∷ []
    ≡ (23 ∷ []) ∷ (0 ∷ 0 ∷ 0 ∷ []) ∷ (23 ∷ []) ∷ []
unfolding
    held_after call_at calls_from number_in open_of
    begin_of receive_of judged_by first_failure malformed meaning_in choice.any_of act_of acted_of changed snapped_by settled used_of file_message
    kept_agreement kept_proposals agreement_of
    proposals_of with_agreement any_place beyond_agreement beyond_proposals beyond propose vote makes vote_among kept_proposal file_proposal_of
    best_of grade_among
    file_of overlong may_support supports has_grade under prefixes candidates reading.longer longest_of longest weigh member adding removing
    log_at message_bytes
    bytes_of part put number_at numbers_at bytes_for bytes_for_each is_prefix same_log in_step names_of counts_of totals_from unlike
    find_of sum_of block_holding inside_block
sample_entry = refl
