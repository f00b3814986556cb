-- The message that an Act of a roll made: a law for each return of the code that makes it. Assumes nothing.
use Prim.Native.Nat.{ℕ, ◌≤◌, ◌<◌}
use native.Mathlib.Omega.{arith}
use mathlib.Core.Bool.{Bool, true, false, not, ◌||◌}
use mathlib.Core.List.{List}
use mathlib.Core.Option.{Option, some, none}
use mathlib.Core.Path.{◌≡◌, refl, sym, ap, ◌∙◌}
use borrow.Author.Tests.{le-ltb, le-leb, lt-leb, leb-false}
use denote.Enum.Bare.{sameb}
use lib.Dec.{eqb, leb, ltb}
use lib.ListN.{length, drop, length-append}
use Rattle.std.specs.Prelude.{Result, Ok, Err}
use Rattle.message.specs.Choice.{pick}
use Rattle.message.specs.Logs.{Block}
use Rattle.message.specs.Message.{Meaning, log_message, proposal_message, bytes_of, priority_in}
use Rattle.message.proofs.TestLaws.{or_false, or_true}
use Rattle.message.proofs.Acceptance.{length_blocks}
use Rattle.message.proofs.WrittenFields.{length_message}
use Rattle.bench.specs.Layout.{most_bytes, Lent}
use Rattle.bench.specs.Calls.{Reply, refused, done, took, acted, found, State}
use Rattle.bench.specs.Acts.{out_after}
use Rattle.bench.specs.Record.{Bench}
use Rattle.bench.specs.ByRecord.{act_of}
use Rattle.bench.specs.Answers.{content_made, made_reply, ActGives}
use Rattle.bench.specs.declared.refusal.Refusal.{Refusal}
use Rattle.bench.specs.declared.Made.{Made}
use Rattle.bench.specs.declared.Offer.{Offer}
use Rattle.bench.specs.declared.Made.TheVariants as makings
use Rattle.bench.proofs.Buffer.{made_in, act_out, out_made, same_reply}
use Rattle.bench.proofs.Replies.{made_nothing, made_log, made_proposal, made_refused}
use Rattle.run.specs.contracts.Kind.{the_type}
use Rattle.run.specs.declared.Kind.{Kind}
use Rattle.run.specs.declared.Kind.TheVariants as kinds
use Rattle.run.specs.Roll.{events_of, kind_at, act_kind, misshapen, fresh_buffer, offered_at, priority_at, call_at}
use Rattle.run.specs.RollText.{fresh_lists, step_of}
use Rattle.run.specs.RollSteps.{KindIs, offer_at, length_for, unmade, Runs}
use Rattle.run.specs.Held.{held_after, first_calls, body_place, opening_of, opened_on, open_refuses}
use Rattle.run.specs.MadeBytes.{made_by, no_act, act_after, made_on, made_of, made_length, GivesMade}
use Rattle.run.proofs.HeldLaws.{silent}

-- ---- which events are no Act

module _ (s : List ℕ) (e k : ℕ) (q : e ≡ events_of s) where
  pub no_event : e ≤ k → true ≡ no_act s k
  unfolding no_act
  no_event h = rw (le-leb (events_of s) k (omega arith))

  pub event_act_not : (r : Kind) (v : Bool) → k < e → KindIs (kind_at s k) r → v ≡ not (sameb the_type r kinds.Act) → v ≡ no_act s k
  unfolding no_act
  event_act_not kinds.Begin v h is u = rw (lt-leb (events_of s) k (omega arith), is) u
  event_act_not kinds.Receive v h is u = rw (lt-leb (events_of s) k (omega arith), is) u
  event_act_not kinds.Act v h is u = rw (lt-leb (events_of s) k (omega arith), is) u

-- ---- how long the message is

-- the code's answer and the message in the buffer say the same
length-answer : (out : List ℕ) (a : Result Made Refusal) → length_for a ≡ made_length (made_by (made_reply out a))
unfolding length_for
length-answer out (Ok makings.Nothing) = rw (made_nothing out)
length-answer out (Ok (makings.Log k)) = rw (made_log out k) (sym (length_message (log_message (content_made out k)) ∙ rw (length_blocks out k)))
length-answer out (Ok (makings.Proposal k)) =
    rw (made_proposal out k) (sym (length_message (proposal_message (content_made out k) (priority_in out)) ∙ rw (length_blocks out k)))
length-answer out (Err why) = rw (made_refused out why)

-- ---- the Act

made_same : (r : Reply) → made_in r ≡ made_by r
made_same (refused number) = refl
made_same done = refl
made_same (took w) = refl
made_same (acted m) = refl
made_same (found block inside) = refl

module _ (x : State) (block : Block) (priority : ℕ) (out : List ℕ) where
  made_fits : (r : Reply) → (act_of x block priority out).answer.reply ≡ r
      → made_length (made_by r) ≤ length (act_of x block priority out).answer.out
  made_fits (refused number) e = omega arith
  made_fits done e = omega arith
  made_fits (took w) e = omega arith
  made_fits (found block inside) e = omega arith
  made_fits (acted none) e = omega arith
  made_fits (acted (some m)) e =
      let l = ap length (out_made x block priority out m e) in
      let n = length-append (bytes_of m) (drop (length (bytes_of m)) out) in
      omega arith

  act_gives : (r : Result Made Refusal) (b : Bench) (ns cs ts after : List ℕ) (n : ℕ) → ActGives (act_of x block priority out) r b ns cs ts after
      → n ≡ length_for r
      → GivesMade (made_by (act_of x block priority out).answer.reply) out n after
  act_gives r b ns cs ts after n g e =
      let a : n ≡ made_length (made_by (act_of x block priority out).answer.reply) =
      e ∙ length-answer after r ∙ ap (λ (p : Reply). made_length (made_by p)) g.answered in
      record {
        answered = a;
        fits = let f = made_fits (act_of x block priority out).answer.reply refl in let l = ap length g.buffer in omega arith;
        buffer = g.buffer ∙ act_out x block priority out
            ∙ ap (λ (o : Option Meaning). out_after o out) (made_same (act_of x block priority out).answer.reply);
      }

pub act_makes : (s : List ℕ) (a : ℕ) (x : State) (out : List ℕ) (o : Offer) (r : Result Made Refusal) (b : Bench) (ns cs ts after : List ℕ) (n : ℕ)
    → o ≡ offer_at s a
    → ActGives (act_of x (record { name = o.name; count = o.count }) o.priority out) r b ns cs ts after → n ≡ length_for r
    → GivesMade (made_by (act_of x (offered_at s a) (priority_at s a) out).answer.reply) out n after
unfolding offer_at
act_makes s a x out o r b ns cs ts after n q g e = act_gives x (offered_at s a) (priority_at s a) out r b ns cs ts after n (rw q at g) e

pub made_as_said : (x : State) (s : List ℕ) (k : ℕ) (out : List ℕ) → kind_at s k ≡ act_kind → most_bytes ≤ length out
    → (act_after x s k out).answer.reply ≡ (step_of (held_after x (first_calls s k)) (call_at s k (body_place s k))).answer.reply
unfolding call_at
made_as_said x s k out e h =
    let n : ltb (length out) most_bytes ≡ ltb (length fresh_buffer) most_bytes = le-ltb (length out) most_bytes h in
    rw e (same_reply (held_after x (first_calls s k)) (offered_at s (body_place s k)) (priority_at s (body_place s k)) out fresh_buffer n)

-- ---- the calls before it

made_after : (s : List ℕ) (l : Lent) (k : ℕ) (out : List ℕ) (at : ℕ) → at ≡ body_place s k → (o : Bench) → o ≡ (opening_of s l).bench
    → (y : State) → y ≡ held_after (record { bench = o; lent = l }) (first_calls s k)
    → (n : ℕ) (after : List ℕ)
    → GivesMade (made_by (act_of y (offered_at s at) (priority_at s at) out).answer.reply) out n after
    → GivesMade (made_by (act_after (opened_on s l) s k out).answer.reply) out n after
made_after s l k out at p o e y f n after g =
    let h : y ≡ held_after (opened_on s l) (first_calls s k) = rw e at f in
    rw (h, p) at g

-- ---- of a whole roll

module _ (s : List ℕ) (k : ℕ) where
  pub unmade_no_roll : misshapen s ≡ true → unmade s k ≡ true
  unmade_no_roll e = rw e

  module _ (w : Bool) (u : w ≡ no_act s k) where
    pub unmade_no_act : w ≡ true → unmade s k ≡ true
    unmade_no_act e = rw (← u, e) (or_true (misshapen s))

    pub unmade_none : misshapen s ≡ false → w ≡ false → unmade s k ≡ false
    unmade_none e f = rw (e, ← u, f)

  pub made_event : unmade s k ≡ false → k ≤ events_of s
  unfolding no_act
  made_event e =
      let act = (or_false (misshapen s) (no_act s k) e).1 in
      let n = leb-false (events_of s) k (or_false (leb (events_of s) k) (not (eqb (kind_at s k) act_kind)) act).0 in
      omega arith

-- one test after the other, and all at once
picks : {A : Type 0} (a b c : Bool) (x y : A) → pick (a || b) x (pick c x y) ≡ pick ((a || b) || c) x y
picks true b c x y = refl
picks false true c x y = refl
picks false false c x y = refl

module _ (s : List ℕ) (k : ℕ) where
  made_is : (out : List ℕ)
      → made_of s k out
      ≡ pick (unmade s k || open_refuses s fresh_lists) none (made_by (act_after (opened_on s fresh_lists) s k out).answer.reply)
  unfolding made_of made_on
  made_is out =
      picks (misshapen s) (no_act s k) (open_refuses s fresh_lists) none (made_by (act_after (opened_on s fresh_lists) s k out).answer.reply)

  made_none : (out : List ℕ) → (unmade s k || open_refuses s fresh_lists) ≡ true → GivesMade (made_of s k out) out 0 out
  made_none out e = rw (made_is out, e) (record { answered = refl; fits = omega arith; buffer = refl })

  pub made_unmade : (out : List ℕ) → unmade s k ≡ true → GivesMade (made_of s k out) out 0 out
  made_unmade out e = made_none out (rw e)

  pub made_shut : (out : List ℕ) → open_refuses s fresh_lists ≡ true → GivesMade (made_of s k out) out 0 out
  made_shut out e = made_none out (rw e (or_true (unmade s k)))

  pub made_whole : (out : List ℕ) → unmade s k ≡ false → open_refuses s fresh_lists ≡ false → (at : ℕ) → at ≡ body_place s k → (o : Bench)
      → o ≡ (opening_of s fresh_lists).bench
      → (y : State) (q : ℕ) (mid : List ℕ) → Runs false s k (record { bench = o; lent = fresh_lists }) 0 out y q mid
      → (n : ℕ) (after : List ℕ)
      → GivesMade (made_by (act_of y (offered_at s at) (priority_at s at) mid).answer.reply) mid n after
      → GivesMade (made_of s k out) out n after
  made_whole out e d at p o h y q mid f n after g =
      rw (made_is out, e, d)
      (made_after s fresh_lists k out at p o h y f.left n after
      (rw (silent s k (record { bench = o; lent = fresh_lists }) out y q mid f) at g))
