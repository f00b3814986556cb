-- What each call promises: its answer, read as document 01's, the record, the lists and the outgoing buffer, each by an equation (document
-- 01, "How far a promise must reach", and the last lines of the list of forms). Assumes nothing.
use Rattle.std.specs.Prelude.{ℕ, List, ◌≡◌, Result, Ok, Err}
use Rattle.std.proofs.Math.Option.{some, none}
use Rattle.message.specs.Logs.{Block}
use Rattle.message.specs.Message.{Content, log_message, proposal_message, sender_in, view_in, priority_in, blocks_in}
use Rattle.agreement.specs.Filing.{word_of}
use Rattle.agreement.specs.declared.Answer.{Answer}
use Rattle.bench.specs.Layout.{Lent}
use Rattle.bench.specs.Calls.{Reply, refused, done, took, acted, found, State, Core, Opening, Step}
use Rattle.bench.specs.Record.{Bench, bench_of}
use Rattle.bench.specs.declared.Bench as struct
use Rattle.bench.specs.declared.Offer.{Offer}
use Rattle.bench.specs.Refusals.{refusal_number}
use Rattle.bench.specs.declared.refusal.Refusal.{Refusal}
use Rattle.bench.specs.declared.Made.{Made}
use Rattle.bench.specs.declared.Made.TheVariants as makings
use Rattle.bench.specs.declared.Entry.{Entry}

-- ---- what is handed in, as the definitions take it

abbrev pub lent_as : List ℕ → List ℕ → List ℕ → Lent
lent_as names counts totals = record { names = names; counts = counts; totals = totals }

abbrev pub held_with : Bench → List ℕ → List ℕ → List ℕ → State
held_with b names counts totals = record { bench = b; lent = lent_as names counts totals }

abbrev pub core_with : Bench → List ℕ → List ℕ → Core
core_with b names counts = record { bench = b; names = names; counts = counts }

abbrev pub state_of : struct.Bench → List ℕ → List ℕ → List ℕ → State
state_of b names counts totals = held_with (bench_of b) names counts totals

abbrev pub offered : Offer → Block
offered o = record { name = o.name; count = o.count }

-- ---- the code's answers, as document 01's: nothing is lost by it (Replies: the four laws `..-injective`)

unfoldable pub start_reply : Result (Unit {0}) Refusal → Reply
start_reply (Ok _) = done
start_reply (Err why) = refused (refusal_number why)

unfoldable pub taken_reply : Result Answer Refusal → Reply
taken_reply (Ok a) = took (word_of a)
taken_reply (Err why) = refused (refusal_number why)

-- a message of k blocks at the front of the outgoing buffer
abbrev pub content_made : List ℕ → ℕ → Content
content_made out k = record { sender = sender_in out; view = view_in out; log = blocks_in out k }

-- What an Act made stands in the buffer that it leaves: the answer says which kind, and how many blocks.
unfoldable pub made_reply : List ℕ → Result Made Refusal → Reply
made_reply out (Ok makings.Nothing) = acted none
made_reply out (Ok (makings.Log k)) = acted (some (log_message (content_made out k)))
made_reply out (Ok (makings.Proposal k)) = acted (some (proposal_message (content_made out k) (priority_in out)))
made_reply out (Err why) = refused (refusal_number why)

-- an entry was found in the block of this place, at this place inside it
unfoldable pub entry_reply : Result Entry Refusal → Reply
entry_reply (Ok e) = found e.block e.inside
entry_reply (Err why) = refused (refusal_number why)

-- ---- a call answered so, and left record, lists and buffer so: b is what the record then holds

-- The lists that Open leaves are those handed in.
pub record OpenGives (t : Opening) (l : Lent) (a : Result (Unit {0}) Refusal) (b : Bench) (names counts totals : List ℕ) : Type 0 where
  pub answered : start_reply a ≡ t.reply
  pub bench : b ≡ t.bench
  pub name_list : names ≡ l.names
  pub count_list : counts ≡ l.counts
  pub total_list : totals ≡ l.totals

pub record BeginGives (t : Step) (a : Result (Unit {0}) Refusal) (b : Bench) (names counts totals : List ℕ) : Type 0 where
  pub answered : start_reply a ≡ t.answer.reply
  pub bench : b ≡ t.held.bench
  pub name_list : names ≡ t.held.lent.names
  pub count_list : counts ≡ t.held.lent.counts
  pub total_list : totals ≡ t.held.lent.totals

pub record ReceiveGives (t : Step) (a : Result Answer Refusal) (b : Bench) (names counts totals : List ℕ) : Type 0 where
  pub answered : taken_reply a ≡ t.answer.reply
  pub bench : b ≡ t.held.bench
  pub name_list : names ≡ t.held.lent.names
  pub count_list : counts ≡ t.held.lent.counts
  pub total_list : totals ≡ t.held.lent.totals

pub record ActGives (t : Step) (a : Result Made Refusal) (b : Bench) (names counts totals out : List ℕ) : Type 0 where
  pub answered : made_reply out a ≡ t.answer.reply
  pub bench : b ≡ t.held.bench
  pub name_list : names ≡ t.held.lent.names
  pub count_list : counts ≡ t.held.lent.counts
  pub total_list : totals ≡ t.held.lent.totals
  pub buffer : out ≡ t.answer.out

-- Find is handed the record and gives none back.
pub record FindGives (t : Step) (a : Result Entry Refusal) (names counts totals : List ℕ) : Type 0 where
  pub answered : entry_reply a ≡ t.answer.reply
  pub name_list : names ≡ t.held.lent.names
  pub count_list : counts ≡ t.held.lent.counts
  pub total_list : totals ≡ t.held.lent.totals
