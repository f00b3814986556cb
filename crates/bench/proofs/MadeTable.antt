-- What an Act makes, and the outgoing bytes: a PROPOSAL, a LOG, and nothing; and the limit of 64 blocks. Computed. Assumes nothing.
use Prim.Native.Nat.{ℕ, ◌+◌}
use mathlib.Core.List.{List, [], ◌∷◌, ◌++◌, map}
use mathlib.Core.Option.{Option, some, none}
use mathlib.Core.Path.{◌≡◌, refl}
use lib.ListN.{length, replicate}
use Rattle.message.specs.Limits.{most_blocks}
use Rattle.message.specs.Causes.{first_failure, judged_by}
use Rattle.message.specs.Numbers.{part, put, bytes_for, bytes_for_each}
use Rattle.message.specs.Logs.{Block, Log, is_prefix, in_step, names_of, counts_of}
use Rattle.message.specs.Message.{Meaning, log_message, proposal_message, message_bytes, bytes_of}
use Rattle.message.specs.Store.{log_at}
use Rattle.agreement.specs.Limits.{place_of}
use Rattle.agreement.specs.Sets.{weigh, member, adding, removing}
use Rattle.agreement.specs.Reading.{may_support, supports, has_grade, under, prefixes, candidates, longer, longest_of, longest}
use Rattle.agreement.specs.Record.{empty_agreement, overlong}
use Rattle.agreement.specs.Grades.{grade_among}
use Rattle.agreement.specs.Proposals.{empty_proposals, with_proposal, file_proposal_of, best_of}
use Rattle.agreement.specs.Kept.{kept_proposal}
use Rattle.agreement.specs.Heard.{vote_among}
use Rattle.bench.specs.Layout.{logs_place, least_lent}
use Rattle.bench.specs.Totals.{totals_from, unlike}
use Rattle.bench.specs.Calls.{acted, State, Step}
use Rattle.bench.specs.Acts.{propose, vote, makes}
use Rattle.bench.specs.Record.{agreement_of, proposals_of, with_agreement, any_place, beyond_agreement, beyond_proposals, beyond}
use Rattle.bench.specs.ByRecord.{kept_agreement, kept_proposals, begin_of, file_message, used_of, settled, snapped_by, changed, acted_of}
use Rattle.bench.specs.ByRecord.{act_of}
use Rattle.bench.proofs.LimitTable.{nobody, only, long}
use Rattle.bench.proofs.Sample.{alone}

-- ---- bench 3 of 5, gathering at a beat of view 259, which starts at 1,036

-- it heard in view 258 one LOG, of bench 0, with the log L; both snapshots are of that sender
abbrev ready : ℕ → Log → State
ready beat L = record {
  bench =
      record {
        n = 5;
        own = 3;
        next = beat + 1;
        gathering = 1;
        even =
            record {
              marks = record {
                view = 258;
                voters = only 0;
                equivocators = nobody;
                one = record { senders = only 0; taken = 1 };
                two =
                    record { senders = only 0; taken = 1 };
              };
              lengths = long 0 (length L);
            };
        odd = empty_agreement 259;
        proposals = empty_proposals 259;
        decided = 0;
        parted = 0;
      };
  lent =
      record {
        names = put (replicate least_lent 1) (place_of (logs_place 258) 0) (names_of L);
        counts = put (replicate least_lent 1) (place_of (logs_place 258) 0) (counts_of L);
        totals = replicate most_blocks 0;
      };
}

abbrev block : ℕ → ℕ → Block
block name count = record { name = name; count = count }

-- an Act with a buffer of 657 bytes, all 7; names, counts and priority of two bytes
abbrev offers : State → Step
offers s = act_of s (block 517 259) 2057 (replicate 657 7)

abbrev offers_none : State → Step
offers_none s = act_of s (block 0 259) 2057 (replicate 657 7)

abbrev one : Log
one = block 263 2 ∷ []

-- so many blocks
abbrev many : ℕ → Log
many k = replicate k (block 263 2)

-- ---- the bytes

pub record Row : Type 0 where
  pub step : Step
  pub out : List ℕ

abbrev row : Step → List ℕ → Row
row s out = record { step = s; out = out }

abbrev pub rows : List Row
rows =
    -- a PROPOSAL: block count, sender, kind, zero, view; priority; names; counts. The bytes past it keep their values.
    row (offers (ready 1036 one))
    ((2 ∷ 3 ∷ 2 ∷ 0 ∷ 3 ∷ 1 ∷ 0 ∷ 0 ∷ 9 ∷ 8 ∷ replicate 6 0)
    ++ ((7 ∷ 1 ∷ replicate 6 0) ++ ((5 ∷ 2 ∷ replicate 6 0) ++ ((2 ∷ 0 ∷ 3 ∷ 1 ∷ []) ++ replicate 621 7))))
    -- a LOG, of the lock
    ∷ row (offers (ready 1037 one))
    ((1 ∷ 3 ∷ 1 ∷ 0 ∷ 3 ∷ 1 ∷ 0 ∷ 0 ∷ replicate 8 0) ++ ((7 ∷ 1 ∷ replicate 6 0) ++ ((2 ∷ 0 ∷ []) ++ replicate 631 7)))
    -- the first PROPOSAL of a bench alone; its LOG of the empty log, where nothing is proposed
    ∷ row (act_of (begin_of alone 0).held (block 5 3) 9 (replicate 657 7))
    ((1 ∷ 0 ∷ 2 ∷ replicate 5 0) ++ ((9 ∷ replicate 7 0) ++ ((5 ∷ replicate 7 0) ++ ((3 ∷ 0 ∷ []) ++ replicate 631 7))))
    ∷ row (act_of (begin_of alone 1).held (block 5 3) 9 (replicate 656 7)) ((0 ∷ 0 ∷ 1 ∷ replicate 13 0) ++ replicate 640 7)
    -- nothing is made: no block offered; no candidate; no lock; the two other acts; refused
    ∷ row (offers_none (ready 1036 one)) (replicate 657 7)
    ∷ row (offers (ready 1032 one)) (replicate 657 7)
    ∷ row (offers (ready 1033 one)) (replicate 657 7)
    ∷ row (offers (ready 1038 one)) (replicate 657 7)
    ∷ row (offers (ready 1039 one)) (replicate 657 7)
    ∷ row (offers alone) (replicate 657 7)
    ∷ []

pub bytes_hold : map (λ (r : Row). r.step.answer.out) rows ≡ map (λ (r : Row). r.out) rows
unfolding
    judged_by first_failure unlike totals_from begin_of kept_agreement kept_proposals act_of acted_of changed snapped_by settled used_of
    agreement_of proposals_of
    with_agreement
    any_place beyond_agreement beyond_proposals beyond propose vote makes vote_among kept_proposal best_of grade_among overlong may_support supports
    has_grade under
    prefixes candidates longer longest_of longest weigh member adding removing log_at message_bytes bytes_of part put bytes_for bytes_for_each
    is_prefix in_step names_of counts_of
bytes_hold = refl

-- ---- 64 blocks at the most

-- of bench 3, view 259
abbrev log : Log → Option Meaning
log L = some (log_message (record { sender = 3; view = 259; log = L }))

abbrev proposal : Log → Option Meaning
proposal L = some (proposal_message (record { sender = 3; view = 259; log = L }) 2057)

pub record Limit : Type 0 where
  pub step : Step
  pub made : Option Meaning

abbrev limit : Step → Option Meaning → Limit
limit s made = record { step = s; made = made }

abbrev pub limits : List Limit
limits =
    -- a candidate of 63 blocks and the one offered; one of 64 has no room
    limit (offers (ready 1036 (many 63))) (proposal (many 63 ++ (block 517 259 ∷ [])))
    ∷ limit (offers_none (ready 1036 (many 63))) none
    ∷ limit (offers (ready 1036 (many 64))) none
    -- a lock of 64 blocks is voted for
    ∷ limit (offers (ready 1037 (many 64))) (log (many 64))
    ∷ []

pub limits_hold : map (λ (r : Limit). r.step.answer.reply) limits ≡ map (λ (r : Limit). acted r.made) limits
unfolding
    judged_by first_failure unlike totals_from act_of acted_of changed settled used_of agreement_of proposals_of any_place beyond_agreement
    beyond_proposals beyond
    propose vote makes
    vote_among kept_proposal best_of grade_among overlong may_support supports has_grade under prefixes candidates longer longest_of longest weigh
    member adding removing log_at part put
    is_prefix in_step names_of counts_of
limits_hold = refl

-- the longest message fills 656 bytes, and is filed as one's own
pub longest_out : (offers (ready 1036 (many 63))).answer.out
    ≡ bytes_of (proposal_message (record { sender = 3; view = 259; log = many 63 ++ (block 517 259 ∷ []) }) 2057) ++ (7 ∷ [])
unfolding
    judged_by first_failure unlike totals_from act_of acted_of changed settled used_of agreement_of proposals_of any_place beyond_agreement
    beyond_proposals beyond
    propose makes grade_among overlong
    may_support supports has_grade under prefixes candidates longer longest_of longest weigh member adding removing log_at message_bytes bytes_of
    part put bytes_for bytes_for_each is_prefix
    in_step names_of counts_of
longest_out = refl

pub longest_filed : (offers (ready 1036 (many 63))).held.bench.proposals ≡ with_proposal (empty_proposals 259) 3 64 2057
unfolding
    judged_by first_failure unlike totals_from act_of acted_of changed settled used_of agreement_of proposals_of any_place beyond_agreement
    beyond_proposals beyond
    propose makes grade_among overlong
    may_support supports has_grade under prefixes candidates longer longest_of longest weigh member adding removing log_at file_message
    file_proposal_of message_bytes bytes_of part put
    bytes_for bytes_for_each is_prefix in_step names_of counts_of
longest_filed = refl
