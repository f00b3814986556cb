-- Where an entry stands after the first calls of a roll: a law for each return of the code that writes it. Assumes nothing.
use Prim.Native.Nat.{ℕ, ◌/◌, ◌%◌, ◌<◌}
use native.Mathlib.Omega.{arith}
use mathlib.Core.Bool.{true, false}
use mathlib.Core.List.{List, [], ◌∷◌}
use mathlib.Core.Option.{Option, some, none}
use mathlib.Core.Path.{◌≡◌, refl, ap, ◌∙◌}
use lib.ListN.{length}
use Rattle.std.specs.Prelude.{Result, Ok, Err}
use Rattle.message.specs.Causes.{first_failure}
use Rattle.message.proofs.NumberLaws.{bytes_two}
use Rattle.bench.specs.Calls.{State}
use Rattle.bench.specs.Record.{Bench}
use Rattle.bench.specs.ByRecord.{find_rows, find_of}
use Rattle.bench.specs.Answers.{entry_reply, FindGives}
use Rattle.bench.specs.Refusals.{refusal_number}
use Rattle.bench.specs.declared.refusal.Refusal.{Refusal}
use Rattle.bench.specs.declared.Entry.{Entry}
use Rattle.bench.proofs.Replies.{entry_at, entry_refused}
use Rattle.bench.proofs.Refusals.{find_judged}
use Rattle.run.specs.RollText.{fresh_lists}
use Rattle.run.specs.RollSteps.{Puts, Runs}
use Rattle.run.specs.Held.{opening_of, held_at}
use Rattle.run.specs.EntryBytes.{entry_bytes, entry_of, GivesEntry, no_entry}
use Rattle.run.proofs.HeldLaws.{silent}

-- ---- the bytes of an answer

module _ (a : Result Entry Refusal) (l : List ℕ) (r : ℕ) (m : List ℕ) where
  pub entry_found : (e : Entry) → a ≡ Ok e → Puts (e.block ∷ e.inside % 256 ∷ e.inside / 256 % 256 ∷ []) 0 l r m
      → Puts (entry_bytes (entry_reply a)) 0 l r m
  entry_found e f p = rw (f, entry_at e, bytes_two) p

  pub entry_turned : (why : Refusal) → a ≡ Err why → (k : ℕ) → k ≡ refusal_number why → Puts (k ∷ []) 0 l r m
      → Puts (entry_bytes (entry_reply a)) 0 l r m
  entry_turned why f k n p = rw (f, entry_refused why, ← n) p

-- An answer has a byte at least, so that 0 says that none was given.
pub entry_answers : (x : State) (e : ℕ) → 0 < length (entry_bytes (find_of x e).answer.reply)
entry_answers x e = go (first_failure (find_rows x e)) refl
  where
    go : (o : Option ℕ) → first_failure (find_rows x e) ≡ o → 0 < length (entry_bytes (find_of x e).answer.reply)
    go none f = rw ((find_judged x e).does f) (omega arith)
    go (some k) f = rw ((find_judged x e).refuses k f) (omega arith)

-- ---- the promise

module _ (s : List ℕ) (k e : ℕ) (before : List ℕ) where
  pub entry_none : no_entry s k before ≡ true → GivesEntry (no_entry s k before) (entry_of s k e) before 0 before
  entry_none f = rw f (record { answered = refl; buffer = refl })

  pub entry_whole : no_entry s k before ≡ false → (o : Bench) → o ≡ (opening_of s fresh_lists).bench → (y : State) (q : ℕ) (mid : List ℕ)
      → Runs false s k (record { bench = o; lent = fresh_lists }) 0 before y q mid → (a : Result Entry Refusal) (ns cs ts : List ℕ)
      → FindGives (find_of y e) a ns cs ts
      → (n : ℕ) (after : List ℕ) → Puts (entry_bytes (entry_reply a)) 0 mid n after
      → GivesEntry (no_entry s k before) (entry_of s k e) before n after
  entry_whole f o h y q mid g a ns cs ts d n after p =
      let held : y ≡ held_at s fresh_lists k = rw h at g.left in
      let same : entry_reply a ≡ entry_of s k e = d.answered ∙ ap (λ (x : State). (find_of x e).answer.reply) held in
      let kept = silent s k (record { bench = o; lent = fresh_lists }) before y q mid g in
      rw (f, ← same) (record { answered = p.place ∙ omega arith; buffer = rw kept at p.text })
