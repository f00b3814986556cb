-- The refusals, for every record, list, message and buffer: a call is refused by the first failure of its causes, under no other condition,
-- and then leaves all as it was. What "first failure" comes to, row by row, is said over any list in message's CauseLaws. Assumes nothing.
use Prim.Native.Nat.{ℕ}
use native.Mathlib.Omega.{arith}
use mathlib.Core.Bool.{Bool, true, false, not}
use mathlib.Core.Logic.{◌⊎◌, inl, inr}
use mathlib.Core.List.{List, [], ◌∷◌, ◌++◌}
use mathlib.Core.Option.{some, none}
use mathlib.Core.Path.{◌≡◌, refl, sym, ap, ◌∙◌}
use Rattle.message.specs.Choice.{pick}
use Rattle.message.specs.Causes.{Cause, by, first_failure, judged_by}
use Rattle.message.specs.Logs.{Block}
use Rattle.message.specs.Message.{Meaning, meaning_in, read_causes, refused as unread, means, read_of}
use Rattle.message.proofs.CauseLaws.{no_failure, failure_append, fails_by, listed, unlisted, row_given, row_only, judged}
use Rattle.message.proofs.CauseLaws.{judged_refused, judged_done, judged_past}
use Rattle.message.proofs.Acceptance.{read_cause, accepted as read-accepted}
use Rattle.bench.specs.Terms.{Terms, seat_of}
use Rattle.bench.specs.Layout.{Lent, short_lists}
use Rattle.bench.specs.Calls.{Reply, refused, done, Opening, Step, State, core_of, open_to, found_in}
use Rattle.bench.specs.Causes.{open_causes, message_causes}
use Rattle.bench.specs.History.{open_refusal}
use Rattle.bench.specs.Record.{fresh_bench, beat_of, idle, beyond}
use Rattle.bench.specs.ByRecord.{refuse, step_by, wrong_totals, record_causes, not_opened, open_of, begun, begin_rows, begin_of, file_message}
use Rattle.bench.specs.ByRecord.{taken, receive_rows, receive_of, acted_of, acted_now, act_step, act_rows, act_of, find_rows, found_step}
use Rattle.bench.specs.ByRecord.{find_of, decided_log}
use Rattle.bench.specs.Tested.{Served}

-- ---- Open

module _ (n own : ℕ) (l : Lent) where
  abbrev opened : Opening
  opened = record { reply = done; bench = fresh_bench n own }

  pub open_refused : (k : ℕ) → first_failure (open_causes n own l) ≡ some k → open_of n own l ≡ not_opened k
  unfolding open_of
  open_refused k e = judged_refused not_opened opened (open_causes n own l) k e

  pub open_done : first_failure (open_causes n own l) ≡ none → open_of n own l ≡ record { reply = done; bench = fresh_bench n own }
  unfolding open_of
  open_done e = judged_done not_opened opened (open_causes n own l) e

  -- refused by k, or not, under no other condition
  pub open_cause : (k : ℕ) → (open_of n own l).reply ≡ refused k → first_failure (open_causes n own l) ≡ some k
  unfolding open_of
  open_cause k =
      judged not_opened opened (λ (o : Opening). o.reply ≡ refused k → first_failure (open_causes n own l) ≡ some k) (open_causes n own l)
      (λ j e r. let q : j ≡ k = cc in e ∙ ap some q)
      (λ e r. let z : ◌≡◌ {A = ℕ} 0 1 = cc in absurd (omega arith))

  pub open_none : (open_of n own l).reply ≡ done → first_failure (open_causes n own l) ≡ none
  unfolding open_of
  open_none =
      judged not_opened opened (λ (o : Opening). o.reply ≡ done → first_failure (open_causes n own l) ≡ none) (open_causes n own l)
      (λ j e r. let z : ◌≡◌ {A = ℕ} 0 1 = cc in absurd (omega arith))
      (λ e r. e)

-- what Open is refused by is worked out alike from its record and from the list of calls
pub open_same : (T : Terms) (own : ℕ) (l : Lent) → open_refusal (seat_of T own) l ≡ first_failure (open_causes T.n own l)
unfolding open_refusal
open_same T own l = refl

-- the record beside a refused Open is of no bench
pub no_bench : (k : ℕ) → beyond (not_opened k).bench ≡ true
unfolding beyond
no_bench k = refl

-- ---- a call on a record, judged by these causes: r is what it comes to, and t what is done where none fails

pub record Judged (cs : List Cause) (s : State) (out : List ℕ) (t r : Step) : Type 0 where
  pub refuses : (k : ℕ) → first_failure cs ≡ some k → r ≡ refuse s out k
  pub does : first_failure cs ≡ none → r ≡ t
  pub cause : (k : ℕ) → r.answer.reply ≡ refused k → first_failure cs ≡ some k

-- an answer that is no refusal
abbrev Answers : Reply → Type 0
Answers a = (k : ℕ) → a ≡ refused k → ⊥

by-causes : (cs : List Cause) (s : State) (out : List ℕ) (t : Step) → Answers t.answer.reply
    → Judged cs s out t (judged_by cs (refuse s out) t)
by-causes cs s out t a = record {
  refuses = judged_refused (refuse s out) t cs;
  does = judged_done (refuse s out) t cs;
  cause = λ k.
      judged (refuse s out) t (λ (r : Step). r.answer.reply ≡ refused k → first_failure cs ≡ some k) cs
      (λ j e q. let i : j ≡ k = cc in e ∙ ap some i)
      (λ e q. absurd (a k q));
}

-- a refused call leaves record, lists and buffer
pub refusal_leaves : {cs : List Cause} {s : State} {out : List ℕ} {t r : Step} → Judged cs s out t r → (k : ℕ)
    → r.answer.reply ≡ refused k
    → (r.held ≡ s) × (r.answer.out ≡ out)
refusal_leaves j k q = let e = j.refuses k (j.cause k q) in (ap (λ (x : Step). x.held) e, ap (λ (x : Step). x.answer.out) e)

-- ---- the calls on a record

pub begin_judged : (s : State) (beat : ℕ) → Judged (begin_rows s beat) s [] (begun s beat) (begin_of s beat)
unfolding begin_of
begin_judged s beat =
    by-causes (begin_rows s beat) s [] (begun s beat)
    (λ k e. let z : ◌≡◌ {A = ℕ} 0 1 = cc in omega arith)

pub receive_judged : (s : State) (bytes : List ℕ)
    → Judged (receive_rows s bytes) s [] (step_by s.lent.totals (taken (file_message (core_of s) bytes (meaning_in bytes))))
    (receive_of s bytes)
unfolding receive_of
receive_judged s bytes =
    by-causes (receive_rows s bytes) s [] (step_by s.lent.totals (taken (file_message (core_of s) bytes (meaning_in bytes))))
    (λ k e. let z : ◌≡◌ {A = ℕ} 0 1 = cc in omega arith)

pub act_judged : (s : State) (block : Block) (priority : ℕ) (out : List ℕ)
    → Judged (act_rows s out) s out (act_step s (acted_now (core_of s) block priority out)) (act_of s block priority out)
unfolding act_of acted_of
act_judged s block priority out =
    by-causes (act_rows s out) s out (act_step s (acted_now (core_of s) block priority out))
    (λ k e. let z : ◌≡◌ {A = ℕ} 0 1 = cc in omega arith)

pub find_judged : (s : State) (e : ℕ) → Judged (find_rows s e) s [] (found_step s e) (find_of s e)
unfolding find_of
find_judged s e = by-causes (find_rows s e) s [] (found_step s e) (λ k q. let z : ◌≡◌ {A = ℕ} 0 1 = cc in omega arith)

-- ---- 9, 8 and 9 by the totals, which come first in each: given exactly if so, where no later row has the number

module _ {cs : List Cause} {s : State} {out : List ℕ} {t r : Step} (j : Judged (record_causes s ++ cs) s out t r) where
  pub by_9 : beyond s.bench ≡ true → r ≡ refuse s out 9
  by_9 e = j.refuses 9 (row_given (by 8 (short_lists s.lent) ∷ by 9 (wrong_totals s) ∷ cs) 9 (beyond s.bench) [] tt e)

  pub by_8 : beyond s.bench ≡ false → short_lists s.lent ≡ true → r ≡ refuse s out 8
  by_8 e f = j.refuses 8 (row_given (by 9 (wrong_totals s) ∷ cs) 8 (short_lists s.lent) (by 9 (beyond s.bench) ∷ []) (e, tt) f)

  pub by_totals : beyond s.bench ≡ false → short_lists s.lent ≡ false → wrong_totals s ≡ true → r ≡ refuse s out 9
  by_totals e f g =
      j.refuses 9 (row_given cs 9 (wrong_totals s) (by 9 (beyond s.bench) ∷ by 8 (short_lists s.lent) ∷ []) (e, (f, tt)) g)

  pub only_9 : listed 9 cs ≡ false → r.answer.reply ≡ refused 9
      → (beyond s.bench ≡ true) ⊎ ((beyond s.bench ≡ false) × (short_lists s.lent ≡ false) × (wrong_totals s ≡ true))
  only_9 n q = elim (fails_by (record_causes s ++ cs) 9 (j.cause 9 q)) [
    | inl x ↦ inl x.0
    | inr x ↦ elim x.1 [
      | inl y ↦ (let z : ◌≡◌ {A = ℕ} 8 9 = y.1 in absurd (omega arith))
      | inr y ↦ elim y.1 [ inl z ↦ inr (x.0, y.0, z.0) | inr z ↦ absurd (unlisted cs 9 n z.1) ]
    ]
  ]

  pub only_8 : listed 8 cs ≡ false → r.answer.reply ≡ refused 8 → (beyond s.bench ≡ false) × (short_lists s.lent ≡ true)
  only_8 n q =
      let x = row_only (by 9 (wrong_totals s) ∷ cs) 8 (short_lists s.lent) (by 9 (beyond s.bench) ∷ []) refl n (j.cause 8 q) in
      (x.0.0, x.1)

-- where none is given, the causes of its own judge it
pub served_past : {A : Type 0} (refuse : ℕ → A) (x : A) (s : State) (cs : List Cause) → Served s
    → judged_by (record_causes s ++ cs) refuse x ≡ judged_by cs refuse x
served_past refuse x s cs u = judged_past refuse x (record_causes s) cs (u.limits, (u.lists, (u.totals, tt)))

-- Receive, in a gathering: the message's
pub receive_on : (s : State) (bytes : List ℕ) → Served s → idle s.bench ≡ false
    → receive_of s bytes ≡ judged_by (message_causes s.bench.n (beat_of s.bench) bytes) (refuse s [])
    (step_by s.lent.totals (taken (file_message (core_of s) bytes (meaning_in bytes))))
unfolding receive_of
receive_on s bytes u g =
    judged_past (refuse s []) (step_by s.lent.totals (taken (file_message (core_of s) bytes (meaning_in bytes))))
    (record_causes s ++ (by 22 (idle s.bench) ∷ [])) (message_causes s.bench.n (beat_of s.bench) bytes)
    (u.limits, (u.lists, (u.totals, (g, tt))))

-- and once it is read: refused as it was read, or by its window alone
module _ (n beat : ℕ) (bytes : List ℕ) where
  pub message_refused : (k : ℕ) → read_of n bytes ≡ unread k → first_failure (message_causes n beat bytes) ≡ some k
  message_refused k e = failure_append (read_causes n bytes) (by 21 (not (open_to (meaning_in bytes) beat)) ∷ []) ∙ rw (read_cause n bytes k e)

  pub message_read : {A : Type 0} (refuse : ℕ → A) (take : Meaning → A) (m : Meaning) → read_of n bytes ≡ means m
      → judged_by (message_causes n beat bytes) refuse (take (meaning_in bytes)) ≡ pick (open_to m beat) (take m) (refuse 21)
  message_read {A} refuse take m e =
      let (reads, same) = read-accepted n bytes m e in
      judged_past refuse (take (meaning_in bytes)) (read_causes n bytes) (by 21 (not (open_to (meaning_in bytes) beat)) ∷ []) reads
      ∙ rw same (shut (open_to m beat))
    where
      shut : (t : Bool) → judged_by (by 21 (not t) ∷ []) refuse (take m) ≡ pick t (take m) (refuse 21)
      shut true = judged_done refuse (take m) (by 21 false ∷ []) (no_failure (by 21 false ∷ []) (refl, tt))
      shut false = judged_refused refuse (take m) (by 21 true ∷ []) 21 (row_given [] 21 true [] tt refl)

-- Begin does not write the lists, whatever the record.
pub begin_lent : (s : State) (beat : ℕ) → (begin_of s beat).held.lent ≡ s.lent
unfolding begin_of
begin_lent s beat =
    judged (refuse s []) (begun s beat) (λ (r : Step). r.held.lent ≡ s.lent) (begin_rows s beat)
    (λ k e. refl)
    (λ e. refl)

-- Receive does not write the totals, whatever the record.
pub receive_totals : (s : State) (bytes : List ℕ) → (receive_of s bytes).held.lent.totals ≡ s.lent.totals
unfolding receive_of
receive_totals s bytes =
    judged (refuse s []) (step_by s.lent.totals (taken (file_message (core_of s) bytes (meaning_in bytes))))
    (λ (r : Step). r.held.lent.totals ≡ s.lent.totals) (receive_rows s bytes)
    (λ k e. refl)
    (λ e. refl)

-- Find writes nothing, whatever the record.
pub find_held : (s : State) (e : ℕ) → (find_of s e).held ≡ s
unfolding find_of
find_held s e =
    judged (refuse s []) (found_step s e) (λ (r : Step). r.held ≡ s) (find_rows s e)
    (λ k q. refl)
    (λ q. refl)

-- what Find answers, by its rows alone
pub find_reply : (s : State) (e : ℕ) → (find_of s e).answer.reply ≡ judged_by (find_rows s e) refused (found_in (decided_log (core_of s)) e)
unfolding find_of
find_reply s e =
    let there = found_in (decided_log (core_of s)) e in
    judged (refuse s []) (found_step s e) (λ (r : Step). r.answer.reply ≡ judged_by (find_rows s e) refused there) (find_rows s e)
    (λ k q. sym (judged_refused refused there (find_rows s e) k q))
    (λ q. sym (judged_done refused there (find_rows s e) q))
