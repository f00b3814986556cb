-- The code's answers, read as document 01's: each by its case, and nothing is lost by it. Assumes nothing.
use Prim.Native.Nat.{ℕ}
use mathlib.Core.List.{List}
use mathlib.Core.Option.{some, none}
use mathlib.Core.Path.{◌≡◌, refl, sym, ap, ◌∙◌}
use lib.Dec.{eqb, leb}
use lib.ListN.{length}
use Rattle.std.specs.Prelude.{Result, Ok, Err}
use Rattle.message.specs.Choice.{pick}
use Rattle.message.specs.Message.{log_message, proposal_message, priority_in}
use Rattle.message.specs.declared.refusal.Refusal.TheVariants as reader
use Rattle.message.proofs.Acceptance.{length_blocks}
use Rattle.message.proofs.RefusalLaws.{refusal_of}
use Rattle.agreement.specs.Filing.{first, second, known, word_of}
use Rattle.agreement.specs.declared.Answer.{Answer}
use Rattle.agreement.specs.declared.Answer.TheVariants as words
use Rattle.bench.specs.Calls.{Reply, refused, done, took, acted, found}
use Rattle.bench.specs.Refusals.{refusal_number}
use Rattle.bench.specs.Answers.{start_reply, taken_reply, content_made, made_reply, entry_reply}
use Rattle.bench.specs.declared.refusal.Refusal.{Refusal}
use Rattle.bench.specs.declared.refusal.Refusal.TheVariants as refusals
use Rattle.bench.specs.declared.Made.{Made}
use Rattle.bench.specs.declared.Made.TheVariants as makings
use Rattle.bench.specs.declared.Entry.{Entry}

-- ---- refusals

-- the refusal of a number
abbrev numbered : ℕ → Refusal
numbered k =
    pick (leb k 6) (refusals.Message (refusal_of k))
    (pick (eqb k 7) refusals.Numbers
    (pick (eqb k 8) refusals.Lists
    (pick (eqb k 9) refusals.Record
    (pick (eqb k 10) refusals.Beat
    (pick (eqb k 11) refusals.Buffer
    (pick (eqb k 20) refusals.NotAbove
    (pick (eqb k 21) refusals.NotOpen (pick (eqb k 22) refusals.NoGathering refusals.NoEntry))))))))

numbered_back : (why : Refusal) → numbered (refusal_number why) ≡ why
numbered_back (refusals.Message reader.Short) = refl
numbered_back (refusals.Message reader.Length) = refl
numbered_back (refusals.Message reader.Form) = refl
numbered_back (refusals.Message reader.Sender) = refl
numbered_back (refusals.Message reader.View) = refl
numbered_back (refusals.Message reader.Name) = refl
numbered_back refusals.Numbers = refl
numbered_back refusals.Lists = refl
numbered_back refusals.Record = refl
numbered_back refusals.Beat = refl
numbered_back refusals.Buffer = refl
numbered_back refusals.NotAbove = refl
numbered_back refusals.NotOpen = refl
numbered_back refusals.NoGathering = refl
numbered_back refusals.NoEntry = refl

-- no two refusals have one number
pub refusal_number_injective : (a b : Refusal) → refusal_number a ≡ refusal_number b → a ≡ b
refusal_number_injective a b e = sym (numbered_back a) ∙ ap numbered e ∙ numbered_back b

-- ---- Open and Begin

pub start_done : start_reply (Ok tt) ≡ done
unfolding start_reply
start_done = refl

pub start_refused : (why : Refusal) → start_reply (Err why) ≡ refused (refusal_number why)
unfolding start_reply
start_refused why = refl

-- the answer that a reply comes from

abbrev start_back : Reply → Result (Unit {0}) Refusal
start_back (refused k) = Err (numbered k)
start_back done = Ok tt
start_back (took w) = Ok tt
start_back (acted m) = Ok tt
start_back (found block inside) = Ok tt

start_back_lem : (a : Result (Unit {0}) Refusal) → start_back (start_reply a) ≡ a
unfolding start_reply
start_back_lem (Ok _) = refl
start_back_lem (Err why) = ap Err (numbered_back why)

pub start_reply_injective : (a b : Result (Unit {0}) Refusal) → start_reply a ≡ start_reply b → a ≡ b
start_reply_injective a b e = sym (start_back_lem a) ∙ ap start_back e ∙ start_back_lem b

-- ---- Receive

pub taken_word : (a : Answer) → taken_reply (Ok a) ≡ took (word_of a)
unfolding taken_reply
taken_word a = refl

pub taken_first : taken_reply (Ok words.First) ≡ took first
taken_first = taken_word words.First

pub taken_second : taken_reply (Ok words.Second) ≡ took second
taken_second = taken_word words.Second

pub taken_known : taken_reply (Ok words.Known) ≡ took known
taken_known = taken_word words.Known

pub taken_refused : (why : Refusal) → taken_reply (Err why) ≡ refused (refusal_number why)
unfolding taken_reply
taken_refused why = refl

abbrev taken_back : Reply → Result Answer Refusal
taken_back (refused k) = Err (numbered k)
taken_back done = Ok words.Known
taken_back (took first) = Ok words.First
taken_back (took second) = Ok words.Second
taken_back (took known) = Ok words.Known
taken_back (acted m) = Ok words.Known
taken_back (found block inside) = Ok words.Known

taken_back_lem : (a : Result Answer Refusal) → taken_back (taken_reply a) ≡ a
unfolding taken_reply
taken_back_lem (Ok words.First) = refl
taken_back_lem (Ok words.Second) = refl
taken_back_lem (Ok words.Known) = refl
taken_back_lem (Err why) = ap Err (numbered_back why)

pub taken_reply_injective : (a b : Result Answer Refusal) → taken_reply a ≡ taken_reply b → a ≡ b
taken_reply_injective a b e = sym (taken_back_lem a) ∙ ap taken_back e ∙ taken_back_lem b

-- ---- Act, whatever the buffer holds

module _ (out : List ℕ) where
  pub made_nothing : made_reply out (Ok makings.Nothing) ≡ acted none
  unfolding made_reply
  made_nothing = refl

  pub made_log : (k : ℕ) → made_reply out (Ok (makings.Log k)) ≡ acted (some (log_message (content_made out k)))
  unfolding made_reply
  made_log k = refl

  pub made_proposal : (k : ℕ)
      → made_reply out (Ok (makings.Proposal k)) ≡ acted (some (proposal_message (content_made out k) (priority_in out)))
  unfolding made_reply
  made_proposal k = refl

  pub made_refused : (why : Refusal) → made_reply out (Err why) ≡ refused (refusal_number why)
  unfolding made_reply
  made_refused why = refl

abbrev made_back : Reply → Result Made Refusal
made_back (refused k) = Err (numbered k)
made_back done = Ok makings.Nothing
made_back (took w) = Ok makings.Nothing
made_back (acted none) = Ok makings.Nothing
made_back (acted (some (log_message m))) = Ok (makings.Log (length m.log))
made_back (acted (some (proposal_message m priority))) = Ok (makings.Proposal (length m.log))
made_back (found block inside) = Ok makings.Nothing

made_back_lem : (out : List ℕ) (a : Result Made Refusal) → made_back (made_reply out a) ≡ a
unfolding made_reply
made_back_lem out (Ok makings.Nothing) = refl
made_back_lem out (Ok (makings.Log k)) = ap (λ (n : ℕ). Ok (makings.Log n)) (length_blocks out k)
made_back_lem out (Ok (makings.Proposal k)) = ap (λ (n : ℕ). Ok (makings.Proposal n)) (length_blocks out k)
made_back_lem out (Err why) = ap Err (numbered_back why)

pub made_reply_injective : (out : List ℕ) (a b : Result Made Refusal) → made_reply out a ≡ made_reply out b → a ≡ b
made_reply_injective out a b e = sym (made_back_lem out a) ∙ ap made_back e ∙ made_back_lem out b

-- ---- Find

pub entry_at : (e : Entry) → entry_reply (Ok e) ≡ found e.block e.inside
unfolding entry_reply
entry_at e = refl

pub entry_refused : (why : Refusal) → entry_reply (Err why) ≡ refused (refusal_number why)
unfolding entry_reply
entry_refused why = refl

abbrev entry_back : Reply → Result Entry Refusal
entry_back (refused k) = Err (numbered k)
entry_back done = Err refusals.NoEntry
entry_back (took w) = Err refusals.NoEntry
entry_back (acted m) = Err refusals.NoEntry
entry_back (found block inside) = Ok (record { block = block; inside = inside })

entry_back_lem : (a : Result Entry Refusal) → entry_back (entry_reply a) ≡ a
unfolding entry_reply
entry_back_lem (Ok e) = refl
entry_back_lem (Err why) = ap Err (numbered_back why)

pub entry_reply_injective : (a b : Result Entry Refusal) → entry_reply a ≡ entry_reply b → a ≡ b
entry_reply_injective a b e = sym (entry_back_lem a) ∙ ap entry_back e ∙ entry_back_lem b
