-- Open, Begin and Receive, case by case, as the code finds them: what was tested, and so what is answered and left. Assumes nothing.
use Prim.Native.Nat.{ℕ, ◌<◌, ◌≤◌}
use mathlib.Core.List.{List, []}
use mathlib.Core.Logic.{inl, inr}
use mathlib.Core.Bool.{Bool, true, false}
use mathlib.Core.Option.{some}
use mathlib.Core.Path.{◌≡◌, refl, sym, ◌∙◌}
use Rattle.std.specs.Prelude.{Result, Ok, Err}
use borrow.Author.Tests.{lt-ltb, le-ltb}
use Rattle.message.specs.Causes.{Cause, first_failure, judged_by}
use Rattle.message.proofs.CauseLaws.{FailsBy, first_failure_lem, no_failure, judged, judged_refused, judged_done}
use Rattle.agreement.specs.declared.Answer.{Answer}
use Rattle.bench.specs.Layout.{short_lists, out_of_range}
use Rattle.bench.specs.Calendar.{last_beat}
use Rattle.bench.specs.Calls.{done, State, core_of, Opening}
use Rattle.bench.specs.Record.{Bench, bench_with, fresh_bench, not_above_last, idle}
use Rattle.bench.specs.ByRecord.{refuse, Effect, record_causes, step_by, not_opened, open_of, begun_bench, begin_rows, begin_of}
use Rattle.bench.specs.ByRecord.{receive_rows, receive_of}
use Rattle.bench.specs.Causes.{open_causes, begin_causes}
use Rattle.bench.specs.Answers.{lent_as, held_with, start_reply, OpenGives, BeginGives, ReceiveGives}
use Rattle.bench.specs.declared.Head.{Head}
use Rattle.bench.specs.declared.Rows.{Rows}
use Rattle.bench.specs.Refusals.{refusal_number}
use Rattle.bench.specs.declared.refusal.Refusal.{Refusal}
use Rattle.bench.specs.declared.refusal.Refusal.TheVariants as refusals
use Rattle.bench.proofs.Refusals.{open_done, receive_on, open_refused, begin_judged, receive_judged}
use Rattle.bench.proofs.Replies.{start_done, start_refused, taken_refused}
use Rattle.calls.specs.Steps.{bare, Judges, TakeGives, untaken, receives}
use Rattle.calls.proofs.RefusalCases.{in_front, refused_by, served_by}

-- ---- Open

module _ (n own : ℕ) (names counts totals : List ℕ) (b : Bench) (r : Bool) (e : r ≡ out_of_range n own) where
  abbrev Opened : Result (Unit {0}) Refusal → Type 0
  Opened a = OpenGives (open_of n own (lent_as names counts totals)) (lent_as names counts totals) a b names counts totals

  -- what is opened, or not
  gives : (t : Opening) (a : Result (Unit {0}) Refusal) → open_of n own (lent_as names counts totals) ≡ t → start_reply a ≡ t.reply → b ≡ t.bench → Opened a
  gives t a o q h = rw o (record { answered = q; bench = h; name_list = refl; count_list = refl; total_list = refl })

  pub open_by_7 : r ≡ true → b ≡ fresh_bench 0 0 → Opened (Err refusals.Numbers)
  open_by_7 t h =
      gives (not_opened 7) (Err refusals.Numbers)
      (open_refused n own (lent_as names counts totals) 7
      (first_failure_lem (open_causes n own (lent_as names counts totals)) 7 (inl (sym e ∙ t, refl))))
      (start_refused refusals.Numbers) h

  module _ (t : r ≡ false) (q : Bool) (f : q ≡ short_lists (lent_as names counts totals)) where
    pub open_by_8 : q ≡ true → b ≡ fresh_bench 0 0 → Opened (Err refusals.Lists)
    open_by_8 u h =
        gives (not_opened 8) (Err refusals.Lists)
        (open_refused n own (lent_as names counts totals) 8
        (first_failure_lem (open_causes n own (lent_as names counts totals)) 8 (inr (sym e ∙ t, inl (sym f ∙ u, refl))))) (start_refused refusals.Lists) h

    pub opened : q ≡ false → b ≡ fresh_bench n own → Opened (Ok tt)
    opened u h =
        gives (record { reply = done; bench = fresh_bench n own }) (Ok tt)
        (open_done n own (lent_as names counts totals)
        (no_failure (open_causes n own (lent_as names counts totals)) (sym e ∙ t, (sym f ∙ u, tt))))
        start_done h

-- ---- a call that is judged on the core alone

on_core : (s : State) (cs : List Cause) (x : Effect)
    → judged_by cs (refuse s []) (step_by s.lent.totals x) ≡ step_by s.lent.totals (judged_by cs (untaken (core_of s)) x)
on_core s cs x =
    judged (untaken (core_of s)) x
    (λ (e : Effect). judged_by cs (refuse s []) (step_by s.lent.totals x) ≡ step_by s.lent.totals e) cs
    (judged_refused (refuse s []) (step_by s.lent.totals x) cs)
    (judged_done (refuse s []) (step_by s.lent.totals x) cs)

-- ---- the other calls, once record and lists were judged

module _ (h : Head) (rows : Rows) (names counts totals : List ℕ) (r : Result (Unit {0}) Refusal)
    (j : Judges (held_with (bench_with h rows) names counts totals) r) where
  abbrev b : Bench
  b = bench_with h rows

  abbrev held : State
  held = held_with b names counts totals

  -- ---- Begin

  module _ (beat : ℕ) where
    abbrev Begun : Result (Unit {0}) Refusal → Bench → Type 0
    Begun a c = BeginGives (begin_of held beat) a c names counts totals

    -- refused: all is as it was
    begin_by : (why : Refusal) → first_failure (begin_rows held beat) ≡ some (refusal_number why) → Begun (Err why) b
    begin_by why y =
        rw ((begin_judged held beat).refuses (refusal_number why) y)
        (record { answered = start_refused why; bench = refl; name_list = refl; count_list = refl; total_list = refl })

    pub begin_refused : (why : Refusal) → r ≡ Err why → Begun (Err why) b
    begin_refused why e =
        begin_by why
        (in_front (record_causes held) (begin_causes beat (not_above_last b beat)) (refusal_number why) (refused_by held r j why e))

    module _ (u : Unit {0}) (y : r ≡ Ok u) where
      past_record : (k : ℕ) → FailsBy (begin_causes beat (not_above_last b beat)) k → first_failure (begin_rows held beat) ≡ some k
      past_record k f =
          let s = served_by held r j u y in
          first_failure_lem (begin_rows held beat) k (inr (s.limits, inr (s.lists, inr (s.totals, f))))

      pub begin_by_10 : last_beat < beat → Begun (Err refusals.Beat) b
      begin_by_10 l = begin_by refusals.Beat (past_record 10 (inl (lt-ltb last_beat beat l, refl)))

      module _ (l : beat ≤ last_beat) (i : Bool) (g : i ≡ not_above_last (bare h) beat) where
        pub begin_by_20 : i ≡ true → Begun (Err refusals.NotAbove) b
        begin_by_20 v = begin_by refusals.NotAbove (past_record 20 (inr (le-ltb last_beat beat l, inl (sym g ∙ v, refl))))

        pub begins : (c : Bench) → i ≡ false → c ≡ begun_bench b beat → Begun (Ok tt) c
        begins c v w =
            let s = served_by held r j u y in
            rw ((begin_judged held beat).does
            (no_failure (begin_rows held beat) (s.limits, (s.lists, (s.totals, (le-ltb last_beat beat l, (sym g ∙ v, tt)))))))
            (record { answered = start_done; bench = w; name_list = refl; count_list = refl; total_list = refl })

  -- ---- Receive

  module _ (bytes : List ℕ) where
    abbrev Refused : Refusal → Type 0
    Refused why = ReceiveGives (receive_of held bytes) (Err why) b names counts totals

    refused : (why : Refusal) → first_failure (receive_rows held bytes) ≡ some (refusal_number why) → Refused why
    refused why y =
        rw ((receive_judged held bytes).refuses (refusal_number why) y)
        (record { answered = taken_refused why; bench = refl; name_list = refl; count_list = refl; total_list = refl })

    pub receive_refused : (why : Refusal) → r ≡ Err why → Refused why
    receive_refused why e = refused why (in_front (record_causes held) _ (refusal_number why) (refused_by held r j why e))

    module _ (u : Unit {0}) (y : r ≡ Ok u) (i : Bool) (g : i ≡ idle (bare h)) where
      pub receive_by_22 : i ≡ true → Refused refusals.NoGathering
      receive_by_22 v =
          let s = served_by held r j u y in
          refused refusals.NoGathering
          (first_failure_lem (receive_rows held bytes) 22 (inr (s.limits, inr (s.lists, inr (s.totals, inl (sym g ∙ v, refl))))))

      pub receives-by : (a : Result Answer Refusal) (c : Bench) (ns cs : List ℕ) → i ≡ false → TakeGives (receives (core_of held) bytes) a c ns cs
          → ReceiveGives (receive_of held bytes) a c ns cs totals
      receives-by a c ns cs v w =
          rw (receive_on held bytes (served_by held r j u y) (sym g ∙ v) ∙ on_core held _ _)
          (record { answered = w.answered; bench = w.bench; name_list = w.name_list; count_list = w.count_list; total_list = refl })
