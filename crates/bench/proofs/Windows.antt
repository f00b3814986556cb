-- The calendar and the layout in numbers, and when a message is taken (document 01, "Schedules small enough to draw"): computed. Assumes
-- nothing.
use Prim.Native.Nat.{ℕ, ◌+◌}
use mathlib.Core.List.{List, [], ◌∷◌, map}
use mathlib.Core.Path.{◌≡◌, refl}
use Rattle.message.specs.Choice.{any_of}
use Rattle.message.specs.Causes.{first_failure, judged_by}
use Rattle.message.specs.Numbers.{part, number_at, numbers_at, bytes_for, bytes_for_each}
use Rattle.message.specs.Logs.{Log, in_step, names_of, counts_of}
use Rattle.message.specs.Message.{Meaning, log_message, proposal_message, message_bytes, bytes_of, malformed, meaning_in}
use Rattle.message.specs.Store.{log_at}
use Rattle.agreement.specs.Sets.{weigh, member, adding, removing}
use Rattle.agreement.specs.Filing.{first, file_of}
use Rattle.agreement.specs.Proposals.{file_proposal_of}
use Rattle.bench.specs.Layout.{proposals_place, decided_place, least_lent, most_bytes}
use Rattle.bench.specs.Calendar.{last_beat}
use Rattle.bench.specs.Totals.{totals_from, unlike}
use Rattle.bench.specs.Calls.{Reply, refused, took}
use Rattle.bench.specs.Record.{any_place, beyond_agreement, beyond_proposals, beyond, agreement_of, proposals_of}
use Rattle.bench.specs.ByRecord.{receive_of, file_message}
use Rattle.bench.proofs.Order.{held, gathering}

-- ---- the numbers of document 01

pub the_last_beat : last_beat ≡ 4000006
the_last_beat = refl

pub the_least_lent : least_lent ≡ 6208
the_least_lent = refl

pub the_most_bytes : most_bytes ≡ 656
the_most_bytes = refl

pub the_proposals_place : proposals_place ≡ 4096
the_proposals_place = refl

pub the_decided_place : decided_place ≡ 6144
the_decided_place = refl

-- ---- when a message is taken

-- a beat, a message, and what a bench that gathers at the beat answers
pub record Row : Type 0 where
  pub beat : ℕ
  pub message : Meaning
  pub reply : Reply

abbrev row : ℕ → Meaning → Reply → Row
row b m r = record { beat = b; message = m; reply = r }

abbrev L : Log
L = record { name = 5; count = 1 } ∷ []

-- of view v, from bench 2
abbrev log : ℕ → Meaning
log v = log_message (record { sender = 2; view = v; log = L })

abbrev proposal : ℕ → Meaning
proposal v = proposal_message (record { sender = 2; view = v; log = L }) 9

abbrev pub rows : List Row
rows =
    -- view 1, as document 01 has it
    row 4 (log 1) (refused 21)
    ∷ row 5 (log 1) (took first)
    ∷ row 10 (log 1) (took first)
    ∷ row 11 (log 1) (refused 21)
    ∷ row 3 (proposal 1) (refused 21)
    ∷ row 4 (proposal 1) (took first)
    ∷ row 5 (proposal 1) (took first)
    ∷ row 6 (proposal 1) (refused 21)
    -- the first view
    ∷ row 0 (log 0) (refused 21)
    ∷ row 1 (log 0) (took first)
    ∷ row 6 (log 0) (took first)
    ∷ row 7 (log 0) (refused 21)
    ∷ row 0 (proposal 0) (took first)
    ∷ row 1 (proposal 0) (took first)
    ∷ row 2 (proposal 0) (refused 21)
    -- the last view, up to the last beat
    ∷ row 4000000 (log 1000000) (refused 21)
    ∷ row 4000001 (log 1000000) (took first)
    ∷ row 4000006 (log 1000000) (took first)
    ∷ row 3999999 (proposal 1000000) (refused 21)
    ∷ row 4000000 (proposal 1000000) (took first)
    ∷ row 4000001 (proposal 1000000) (took first)
    ∷ row 4000002 (proposal 1000000) (refused 21)
    -- past the last view there is none, though the beat would fit
    ∷ row 4000005 (log 1000001) (refused 5)
    ∷ row 4000004 (proposal 1000001) (refused 5)
    ∷ []

pub rows_hold : map (λ (r : Row). (receive_of (held (gathering (r.beat + 1)) least_lent least_lent) (bytes_of r.message)).answer.reply) rows
    ≡ map (λ (r : Row). r.reply) rows
unfolding
    receive_of unlike totals_from log_at part file_message file_of file_proposal_of agreement_of proposals_of judged_by first_failure malformed
    meaning_in any_of number_at numbers_at
    in_step bytes_of message_bytes
    bytes_for bytes_for_each names_of counts_of beyond beyond_agreement beyond_proposals any_place weigh member adding removing
rows_hold = refl
