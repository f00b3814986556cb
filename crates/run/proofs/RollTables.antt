-- The roll in examples, computed (document 01, "The roll"): which bytes are a roll, what a line says, and the whole text of the sample; and
-- two causes of no roll that the examples leave out, as laws of every byte string. Assumes nothing.
use Prim.Native.Nat.{ℕ}
use Prim.Native.String.{String}
use mathlib.Core.Bool.{Bool, true, false}
use mathlib.Core.List.{List, [], ◌∷◌, ◌++◌, map}
use mathlib.Core.Logic.{inl}
use mathlib.Core.Option.{some, none}
use mathlib.Core.Path.{◌≡◌, refl}
use lib.Dec.{ltb}
use lib.ListN.{length}
use Rattle.message.specs.Choice as choice
use Rattle.message.specs.Choice.{pick}
use Rattle.message.specs.Causes.{first_failure, judged_by}
use Rattle.message.specs.Numbers.{part, put, number_at, number_in, numbers_at, bytes_for, bytes_for_each}
use Rattle.message.specs.Logs.{Log, is_prefix, same_log, in_step, names_of, counts_of}
use Rattle.message.specs.Message.{log_message, proposal_message, message_bytes, bytes_of, malformed, meaning_in}
use Rattle.message.specs.Store.{log_at}
use Rattle.message.proofs.TestLaws.{or_true}
use Rattle.message.proofs.CauseLaws.{first_failure_lem}
use Rattle.agreement.specs.Sets.{weigh, member, adding, removing}
use Rattle.agreement.specs.Reading as reading
use Rattle.agreement.specs.Reading.{may_support, supports, has_grade, under, prefixes, candidates, longest_of, longest}
use Rattle.agreement.specs.Record.{overlong}
use Rattle.agreement.specs.Filing.{first, second, known, file_of}
use Rattle.agreement.specs.Grades.{grade_among}
use Rattle.agreement.specs.Proposals.{file_proposal_of, best_of}
use Rattle.agreement.specs.Kept.{kept_proposal}
use Rattle.agreement.specs.Heard.{vote_among}
use Rattle.bench.specs.Totals.{totals_from, unlike}
use Rattle.bench.specs.Acts.{propose, vote, makes}
use Rattle.bench.specs.Calls.{Call, begin, receive, act, Reply, refused, done, took, acted}
use Rattle.bench.specs.Record.{agreement_of, proposals_of, with_agreement, any_place, beyond_agreement, beyond_proposals, beyond}
use Rattle.run.specs.Texts.{ascii, digits}
use Rattle.bench.specs.Layout.{out_of_range}
use Rattle.bench.specs.Causes.{open_causes}
use Rattle.bench.proofs.Refusals.{open_refused}
use Rattle.run.specs.Roll.{most_roll, sizes_length, benches_of, own_of, right_body, wrong_mark, misfits, misshapen, call_at, calls_from}
use Rattle.run.specs.RollText.{no_roll_text, fresh_lists, made_text, reply_text, line_for, lines_of, first_line, opened_text, text_of}
use Rattle.bench.specs.ByRecord.{open_of, begin_of, kept_agreement, kept_proposals, receive_of, act_of, acted_of, used_of, settled, snapped_by}
use Rattle.bench.specs.ByRecord.{changed, file_message}

-- ---- which bytes are a roll

-- a roll of bench 0 of 1 with e events
abbrev sized : ℕ → List ℕ → List ℕ
sized e rest = 1 ∷ 0 ∷ (bytes_for 2 e ++ rest)

abbrev mark : ℕ → ℕ → ℕ → List ℕ
mark kind spare k = kind ∷ spare ∷ bytes_for 2 k

abbrev beat : List ℕ
beat = 7 ∷ 0 ∷ 0 ∷ 0 ∷ []

abbrev offer : List ℕ
offer = bytes_for 8 5 ++ (bytes_for 8 9 ++ bytes_for 2 1)

pub record Form : Type 0 where
  pub bytes : List ℕ
  pub misshapen : Bool

abbrev form : List ℕ → Bool → Form
form s t = record { bytes = s; misshapen = t }

abbrev pub forms : List Form
forms =
    -- no events; a begin; an act; a receive of no bytes and one of three
    form (sized 0 []) false
    ∷ form (sized 1 (mark 1 0 4 ++ beat)) false
    ∷ form (sized 1 (mark 3 0 18 ++ offer)) false
    ∷ form (sized 1 (mark 2 0 0)) false
    ∷ form (sized 2 (mark 2 0 3 ++ (mark 1 0 4 ++ (0 ∷ 0 ∷ 0 ∷ beat)))) false
    -- under 4 bytes; too many events
    ∷ form [] true
    ∷ form (1 ∷ 0 ∷ 0 ∷ []) true
    ∷ form (sized 1025 []) true
    -- a kind other than 1 to 3; a mark's second byte
    ∷ form (sized 1 (mark 0 0 4 ++ beat)) true
    ∷ form (sized 1 (mark 4 0 4 ++ beat)) true
    ∷ form (sized 1 (mark 1 1 4 ++ beat)) true
    -- a body of another length
    ∷ form (sized 1 (mark 1 0 3 ++ (7 ∷ 0 ∷ 0 ∷ []))) true
    ∷ form (sized 1 (mark 1 0 18 ++ offer)) true
    ∷ form (sized 1 (mark 3 0 4 ++ beat)) true
    ∷ form (sized 1 (mark 2 0 657)) true
    -- marks or bodies cut short; bytes left over
    ∷ form (sized 1 []) true
    ∷ form (sized 1 (mark 1 0 4 ++ (7 ∷ 0 ∷ 0 ∷ []))) true
    ∷ form (sized 1 (mark 1 0 4 ++ (7 ∷ beat))) true
    ∷ form (sized 0 (0 ∷ [])) true
    ∷ []

pub all_forms : map (λ (r : Form). misshapen r.bytes) forms ≡ map (λ (r : Form). r.misshapen) forms
unfolding misshapen misfits wrong_mark right_body number_in number_at bytes_for
all_forms = refl

-- ---- no roll either, whatever else the bytes say: too many of them, or an n or own number that Open refuses

pub long_no_roll : (s : List ℕ) → ltb most_roll (length s) ≡ true → text_of s ≡ no_roll_text
unfolding text_of misshapen
long_no_roll s e = rw (e, or_true (ltb (length s) sizes_length))

pick-alike : {A : Type 0} (t : Bool) (x : A) → pick t x x ≡ x
pick-alike true x = refl
pick-alike false x = refl

pub refused_no_roll : (s : List ℕ) → out_of_range (benches_of s) (own_of s) ≡ true → text_of s ≡ no_roll_text
unfolding text_of opened_text
refused_no_roll s e =
    rw (open_refused (benches_of s) (own_of s) fresh_lists 7 (first_failure_lem (open_causes (benches_of s) (own_of s) fresh_lists) 7 (inl (e, refl))))
    (pick-alike (misshapen s) no_roll_text)

-- ---- what a line says

abbrev L : Log
L = record { name = 5; count = 1 } ∷ record { name = 6; count = 0 } ∷ []

-- a call, its answer, the blocks decided and the mark after it, and the line
pub record Line : Type 0 where
  pub call : Call
  pub reply : Reply
  pub decided : ℕ
  pub parted : Bool
  pub text : String

abbrev line : Call → Reply → ℕ → Bool → String → Line
line c r d p t = record { call = c; reply = r; decided = d; parted = p; text = t }

abbrev acting : Call
acting = act (record { name = 0; count = 0 }) 0 []

abbrev pub lines : List Line
lines =
    line (begin 0) done 0 false "begin 0 ok\n"
    ∷ line (begin 4000007) (refused 10) 0 false "begin 4000007 10\n"
    ∷ line (begin 4294967295) (refused 10) 0 false "begin 4294967295 10\n"
    ∷ line (receive []) (took first) 0 false "take first\n"
    ∷ line (receive []) (took second) 0 false "take second\n"
    ∷ line (receive []) (took known) 0 false "take known\n"
    ∷ line (receive []) (refused 1) 3 false "take 1\n"
    ∷ line acting (refused 22) 3 true "act 22\n"
    ∷ line acting (acted none) 0 false "act none 0 0\n"
    ∷ line acting (acted none) 64 true "act none 0 64 parted\n"
    ∷ line acting (acted (some (log_message (record { sender = 2; view = 0; log = [] })))) 1 false "act log 0 1\n"
    ∷ line acting (acted (some (log_message (record { sender = 2; view = 0; log = L })))) 10 true "act log 2 10 parted\n"
    ∷ line acting (acted (some (proposal_message (record { sender = 2; view = 0; log = L }) 9))) 1 false "act proposal 2 1\n"
    ∷ []

pub all_lines : map (λ (r : Line). line_for r.call r.reply r.decided r.parted) lines ≡ map (λ (r : Line). ascii r.text) lines
unfolding line_for reply_text made_text digits
all_lines = refl

-- ---- the sample of document 01, whole

abbrev nothing : List ℕ
nothing = bytes_for 8 0 ++ (bytes_for 8 0 ++ bytes_for 2 0)

abbrev twice : List ℕ
twice = mark 1 0 4 ++ mark 3 0 18

abbrev begin_at : ℕ → List ℕ
begin_at b = b ∷ 0 ∷ 0 ∷ 0 ∷ []

abbrev sample_marks : List ℕ
sample_marks = twice ++ (twice ++ (twice ++ (twice ++ (twice ++ (twice ++ twice)))))

abbrev sample_bodies : List ℕ
sample_bodies =
    begin_at 0 ++ (offer
    ++ (begin_at 1 ++ (nothing
    ++ (begin_at 2 ++ (nothing
    ++ (begin_at 3 ++ (nothing
    ++ (begin_at 4 ++ (nothing
    ++ (begin_at 5 ++ (nothing
    ++ (begin_at 6 ++ nothing))))))))))))

abbrev pub sample_roll : List ℕ
sample_roll = sized 14 (sample_marks ++ sample_bodies)

pub sample : text_of sample_roll
    ≡ ascii "bench 0 of 1\nbegin 0 ok\nact proposal 1 0\nbegin 1 ok\nact log 1 0\nbegin 2 ok\nact none 0 0\nbegin 3 ok\nact none 0 0\nbegin 4 ok\nact none 0 0\nbegin 5 ok\nact log 1 0\nbegin 6 ok\nact none 0 1\n"
unfolding
    text_of opened_text first_line lines_of line_for reply_text made_text digits misshapen misfits wrong_mark right_body call_at calls_from number_in
    open_of
    begin_of receive_of judged_by first_failure malformed meaning_in choice.any_of act_of acted_of changed snapped_by settled used_of file_message
    kept_agreement kept_proposals agreement_of
    proposals_of with_agreement any_place beyond_agreement beyond_proposals beyond propose vote makes vote_among kept_proposal file_proposal_of
    best_of grade_among
    file_of overlong may_support supports has_grade under prefixes candidates reading.longer longest_of longest weigh member adding removing
    log_at message_bytes
    bytes_of part put number_at numbers_at bytes_for bytes_for_each is_prefix same_log in_step names_of counts_of totals_from unlike
sample = refl
