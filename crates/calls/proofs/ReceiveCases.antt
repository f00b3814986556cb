-- Receiving, case by case, as the code finds them: what was read, and whether its view is open. Assumes nothing.
use Prim.Native.Nat.{ℕ, ◌+◌, ◌*◌}
use native.Mathlib.Omega.{arith}
use mathlib.Core.Bool.{Bool, true, false, ◌&&◌}
use lib.Dec.{leb}
use mathlib.Core.List.{List}
use mathlib.Core.Path.{◌≡◌, refl, sym, ap, ◌∙◌}
use Rattle.message.specs.Message.{Meaning, log_message, proposal_message, meaning_in, means, read_of, content_of, parsed_of}
use Rattle.std.specs.Prelude.{Result, Ok, Err}
use Rattle.message.specs.Refusals.{number_of}
use Rattle.message.specs.declared.Head as message
use Rattle.message.specs.declared.refusal.Refusal as reader
use Rattle.message.specs.declared.Message.{Message}
use Rattle.message.specs.declared.Message.TheVariants as messages
use Rattle.agreement.specs.declared.Answer.{Answer}
use Rattle.message.proofs.CauseLaws.{judged_refused}
use Rattle.message.proofs.ParsedLaws.{read_as_log, read_as_proposal, read_as_refused}
use Rattle.bench.specs.Calls.{Core}
use Rattle.bench.specs.Calendar.{log_window, proposal_window}
use Rattle.bench.specs.Record.{Bench, bench_with, beat_of}
use Rattle.bench.specs.ByRecord.{Effect, file_log, file_proposal, file_message, taken}
use Rattle.bench.specs.Answers.{core_with}
use Rattle.bench.specs.declared.Head.{Head}
use Rattle.bench.specs.declared.Rows.{Rows}
use Rattle.bench.specs.Refusals.{refusal_number}
use Rattle.bench.specs.declared.refusal.Refusal.{Refusal}
use Rattle.bench.specs.declared.refusal.Refusal.TheVariants as refusals
use Rattle.bench.proofs.Replies.{taken_refused}
use Rattle.bench.proofs.ActLaws.{file_log_lem, file_proposal_lem}
use Rattle.calls.specs.Steps.{bare, receives, receives_as, TakeGives, untaken}
use Rattle.bench.specs.Causes.{message_causes}
use Rattle.bench.proofs.Refusals.{message_refused, message_read}

-- refused: all is as it was
receive_by : (b : Bench) (names counts : List ℕ) (why : Refusal) (t : Effect) → t ≡ untaken (core_with b names counts) (refusal_number why)
    → TakeGives t (Err why) b names counts
receive_by b names counts why t o = rw o (record { answered = taken_refused why; bench = refl; name_list = refl; count_list = refl })

module _ (h : Head) (rows : Rows) (names counts bytes : List ℕ) where
  abbrev b : Bench
  b = bench_with h rows

  abbrev s : Core
  s = core_with b names counts

  -- ---- by its window

  module _ (head : message.Head) (beat : ℕ) (r : Bool) (now : beat ≡ beat_of (bare h)) where
    module _ (q : r ≡ log_window head.view beat) where
      abbrev LogGives : Result Answer Refusal → Bench → List ℕ → List ℕ → Type 0
      LogGives a c ns cs = TakeGives (receives_as s bytes (log_message (content_of bytes head))) a c ns cs

      pub log_shut : r ≡ false → LogGives (Err refusals.NotOpen) b names counts
      log_shut t = rw (← now, ← q, t) (record { answered = taken_refused refusals.NotOpen; bench = refl; name_list = refl; count_list = refl })

      pub log_taken : (a : Result Answer Refusal) (c : Bench) (ns cs : List ℕ) → r ≡ true
          → TakeGives (taken (file_log s bytes head.view head.sender)) a c ns cs → LogGives a c ns cs
      log_taken a c ns cs t f = rw (← now, ← q, t, file_log_lem) f

    module _ (priority : ℕ) (w : r ≡ (leb (4 * head.view + 0) beat && leb beat (4 * head.view + 1))) where
      q : r ≡ proposal_window head.view beat
      q =
          let e : 4 * head.view + 0 ≡ 4 * head.view = omega arith in
          w ∙ ap (λ (n : ℕ). leb n beat && leb beat (4 * head.view + 1)) e

      abbrev ProposalGives : Result Answer Refusal → Bench → List ℕ → List ℕ → Type 0
      ProposalGives a c ns cs = TakeGives (receives_as s bytes (proposal_message (content_of bytes head) priority)) a c ns cs

      pub proposal_shut : r ≡ false → ProposalGives (Err refusals.NotOpen) b names counts
      proposal_shut t = rw (← now, ← q, t) (record { answered = taken_refused refusals.NotOpen; bench = refl; name_list = refl; count_list = refl })

      pub proposal_taken : (a : Result Answer Refusal) (c : Bench) (ns cs : List ℕ) → r ≡ true
          → TakeGives (taken (file_proposal s bytes head.view head.sender priority)) a c ns cs → ProposalGives a c ns cs
      proposal_taken a c ns cs t f = rw (← now, ← q, t, file_proposal_lem) f

  -- ---- by what was read

  module _ (m : Result Message reader.Refusal) (q : parsed_of bytes m ≡ read_of h.n bytes) where
    pub read_refused : (why : reader.Refusal) (k : Refusal) → m ≡ Err why → k ≡ refusals.Message why
        → TakeGives (receives s bytes) (Err k) b names counts
    read_refused why k r e =
        receive_by b names counts k (receives s bytes)
        (judged_refused (untaken s) (taken (file_message s bytes (meaning_in bytes))) (message_causes h.n (beat_of b) bytes) (number_of why)
        (message_refused h.n (beat_of b) bytes (number_of why) (read_as_refused h.n bytes m why q r))
        ∙ ap (λ (x : Refusal). untaken s (refusal_number x)) (sym e))

    -- read as c: judged by its window
    read_as : (c : Meaning) → read_of h.n bytes ≡ means c → receives s bytes ≡ receives_as s bytes c
    read_as c r = message_read h.n (beat_of b) bytes (untaken s) (λ x. taken (file_message s bytes x)) c r

    module _ (x : Message) (r : m ≡ Ok x) (head : message.Head) (a : Result Answer Refusal) (c : Bench) (ns cs : List ℕ) where
      pub read_log : x ≡ messages.Log head → TakeGives (receives_as s bytes (log_message (content_of bytes head))) a c ns cs
          → TakeGives (receives s bytes) a c ns cs
      read_log e f = rw (read_as (log_message (content_of bytes head)) (read_as_log h.n bytes m head q (r ∙ ap Ok e))) f

      pub read_proposal : (priority : ℕ) → x ≡ messages.Proposal head priority
          → TakeGives (receives_as s bytes (proposal_message (content_of bytes head) priority)) a c ns cs
          → TakeGives (receives s bytes) a c ns cs
      read_proposal priority e f =
          rw (read_as (proposal_message (content_of bytes head) priority) (read_as_proposal h.n bytes m head priority q (r ∙ ap Ok e))) f
