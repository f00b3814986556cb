-- Act, case by case, as the code finds it: its refusals, and the row of the calendar. Assumes nothing.
use Prim.Native.Nat.{ℕ, ◌<◌, ◌≤◌}
use mathlib.Core.List.{List}
use mathlib.Core.Logic.{inl, inr}
use mathlib.Core.Bool.{Bool, true, false}
use mathlib.Core.Option.{some}
use mathlib.Core.Path.{◌≡◌, refl, ap, sym, subst, ◌∙◌}
use native.Mathlib.Omega.{arith}
use lib.ListN.{length, drop}
use Rattle.std.specs.Prelude.{Result, Ok, Err}
use borrow.Author.Tests.{lt-ltb, le-ltb}
use Rattle.message.specs.Causes.{first_failure}
use Rattle.message.specs.Numbers.{put}
use Rattle.message.specs.Logs.{Block}
use Rattle.message.specs.Store.{log_at}
use Rattle.message.proofs.ListedLaws.{length_at_lem, counts_at}
use Rattle.message.proofs.CauseLaws.{FailsBy, first_failure_lem, no_failure}
use Rattle.bench.specs.Layout.{most_bytes, decided_place}
use Rattle.bench.specs.Totals.{totals_from, extended}
use Rattle.bench.specs.Calendar.{view_of, place_in, Act, proposing, voting, deciding, snapping, act_at}
use Rattle.bench.specs.Calls.{State, Core, core_of}
use Rattle.bench.specs.Record.{Bench, bench_with, beat_of, idle}
use Rattle.bench.specs.Causes.{act_causes}
use Rattle.bench.specs.ByRecord.{used_of, seen_of, settled, snapped_by, changed, acted_of, over, act_of, act_rows, record_causes, decided_log}
use Rattle.agreement.specs.Record.{one}
use Rattle.bench.specs.Answers.{held_with, core_with, ActGives}
use Rattle.bench.specs.Tested.{Tested}
use Rattle.bench.specs.Refusals.{refusal_number}
use Rattle.bench.specs.declared.refusal.Refusal.{Refusal}
use Rattle.bench.specs.declared.refusal.Refusal.TheVariants as refusals
use Rattle.bench.specs.declared.Head.{Head}
use Rattle.bench.specs.declared.Rows.{Rows}
use Rattle.bench.specs.declared.Made.{Made}
use Rattle.bench.specs.declared.Made.TheVariants as makings
use Rattle.bench.proofs.Refusals.{act_judged}
use Rattle.bench.proofs.Replies.{made_refused}
use Rattle.bench.proofs.ActLaws.{makes_deciding, makes_snapping, changed_deciding, changed_snapping, voted_any}
use Rattle.bench.proofs.TestedLaws.{tested_over}
use Rattle.bench.proofs.TotalLaws.{totals_kept}
use Rattle.bench.proofs.DecidedLaws.{DecidesNot, snapped_decided, acted_decided}
use Rattle.calls.specs.declared.calendar.Act as calendar
use Rattle.calls.specs.declared.calendar.Act.TheVariants as acts
use Rattle.calls.specs.Steps.{bare, row_of, Judges, MakeGives, ActLeaves, no_block, Acting, Decides, Snaps}
use Rattle.calls.specs.TotalSteps.{decided_counts}
use Rattle.calls.proofs.RefusalCases.{in_front, refused_by, served_by, served_usable, served_deciding}
use Rattle.calls.proofs.MakingLaws.{acts_none}

-- the head once the gathering is over
abbrev over_head : Head → Head
over_head h = record {
  next = h.next;
  n = h.n;
  own = h.own;
  decided = h.decided;
  parted = h.parted;
  gathering = 0;
  even = h.even;
  odd =
      h.odd;
  shown = h.shown;
}

module _ (h : Head) (rows : Rows) (names counts totals out : List ℕ) where
  abbrev s : Core
  s = core_with (bench_with h rows) names counts

  abbrev t : Core
  t = core_with (bench_with (over_head h) rows) names counts

  -- what the acts ask
  pub asks_tested : Acting h rows names counts totals out → Tested t out
  asks_tested x = tested_over (bench_with h rows) names counts out x.tested

  -- an act that decides nothing writes no total
  kept_totals : (block : Block) (priority v : ℕ) (a : Act) → DecidesNot a
      → totals ≡ extended totals h.decided (decided_log (acted_of (over s) block priority out v a).core)
  kept_totals block priority v a n =
      let c = (acted_of (over s) block priority out v a).core in
      let k = length_at_lem c.names c.counts decided_place c.bench.decided in
      let m : c.bench.decided ≡ h.decided = acted_decided (over s) block priority out v a n in
      sym (totals_kept totals h.decided (decided_log c) (omega arith))

  module _ (block : Block) (priority beat : ℕ) (act : calendar.Act) (is : row_of act ≡ act_at (place_in beat)) (x : Made) (c : Bench)
      (ns cs out' : List ℕ) (now : beat ≡ beat_of (bare h)) where
    abbrev Row : ℕ → Act → List ℕ → Type 0
    Row k a ts = ActLeaves totals h.decided (acted_of (over s) block priority out (view_of k) a) x c ns cs ts out'

    -- the act of this row at the beat of the gathering
    row : (a : calendar.Act) (ts : List ℕ) → act ≡ a → Row beat (row_of a) ts
        → Row (beat_of (bare h)) (act_at (place_in (beat_of (bare h)))) ts
    row a ts y f =
        subst (λ (k : ℕ). Row k (act_at (place_in k)) ts) now (subst (λ (r : Act). Row beat r ts) (sym (ap row_of y) ∙ is) f)

    pub proposed : act ≡ acts.Proposing → MakeGives (acted_of t block priority out (view_of beat) proposing) x c ns cs out'
        → Row (beat_of (bare h)) (act_at (place_in (beat_of (bare h)))) totals
    proposed y f =
        row acts.Proposing totals y (record { made = f; total_list = kept_totals block priority (view_of beat) proposing tt })

    -- no block is used
    pub voted : act ≡ acts.Voting → MakeGives (acted_of t no_block 0 out (view_of beat) voting) x c ns cs out'
        → Row (beat_of (bare h)) (act_at (place_in (beat_of (bare h)))) totals
    voted y f =
        row acts.Voting totals y
        (record {
          made = rw (voted_any t (view_of beat) block no_block priority 0 out) f;
          total_list = kept_totals block priority (view_of beat) voting tt;
        })

  -- nothing is made: what is left is what the act changed
  abbrev Left : Act → ℕ → Bench → List ℕ → List ℕ → Type 0
  Left a v c ns cs = changed t v a ≡ core_with c ns cs

  -- it decides first, and then takes its snapshot
  closes : (v : ℕ) (c r : Head) (rows' : Rows) (ns cs ts : List ℕ) → Decides (over_head h) rows names counts totals v c ns cs ts
      → Snaps c rows v false r rows'
      → Left deciding v (bench_with r rows') ns cs
  closes v c r rows' ns cs ts d w =
      let l = d.core in
      let y : core_with (bench_with c rows) ns cs ≡ settled t (used_of t v deciding) =
      λ i. record { bench = l.bench i; names = l.name_list i; counts = l.count_list i } in
      changed_deciding t v ∙ sym (w.whole ns cs ∙ ap (snapped_by one v) y)

  takes : (v : ℕ) (r : Head) (rows' : Rows) → Snaps (over_head h) rows v true r rows' → Left snapping v (bench_with r rows') names counts
  takes v r rows' w = changed_snapping t v ∙ sym (w.whole names counts)

  module _ (block : Block) (priority beat : ℕ) (act : calendar.Act) (is : row_of act ≡ act_at (place_in beat))
      (now : beat ≡ beat_of (bare h)) (r : Head) (rows' : Rows) where
    abbrev Done : List ℕ → List ℕ → List ℕ → Type 0
    Done ns cs ts = ActLeaves totals h.decided
        (acted_of (over s) block priority out (view_of (beat_of (bare h))) (act_at (place_in (beat_of (bare h))))) makings.Nothing
        (bench_with r rows') ns cs ts out

    -- the totals written are those of the log that stands after the act
    written : (v : ℕ) (c : Head) (ns cs ts : List ℕ) → Decides (over_head h) rows names counts totals v c ns cs ts
        → Snaps c rows v false r rows'
        → MakeGives (acted_of (over s) block priority out v deciding) makings.Nothing (bench_with r rows') ns cs out
        → ts ≡ extended totals h.decided (decided_log (acted_of (over s) block priority out v deciding).core)
    written v c ns cs ts d w m =
        let same : c.decided ≡ r.decided =
        sym (ap (λ (x : Core). x.bench.decided) (w.whole ns cs) ∙ snapped_decided one v (core_with (bench_with c rows) ns cs)) in
        let log : log_at ns cs decided_place r.decided ≡ decided_log (acted_of (over s) block priority out v deciding).core =
        λ i. log_at (m.name_list i) (m.count_list i) decided_place (m.bench i).decided in
        d.total_list
        ∙ ap (λ (k : ℕ). put totals h.decided (drop h.decided (totals_from 0 (decided_counts cs k)))) same
        ∙ ap (λ (ks : List ℕ). put totals h.decided (drop h.decided (totals_from 0 ks)))
        (sym (counts_at ns cs decided_place r.decided))
        ∙ ap (extended totals h.decided) log

    pub decided : (c : Head) (ns cs ts : List ℕ) → act ≡ acts.Deciding
        → Decides (over_head h) rows names counts totals (view_of beat) c ns cs ts
        → Snaps c rows (view_of beat) false r rows' → Done ns cs ts
    decided c ns cs ts y d w =
        let m = acts_none t block priority out (view_of beat) deciding (bench_with r rows') ns cs
        (closes (view_of beat) c r rows' ns cs ts d w)
        (makes_deciding h.own (view_of beat) block priority (seen_of t (view_of beat) deciding)) in
        row block priority beat act is makings.Nothing (bench_with r rows') ns cs out now acts.Deciding ts y
        (record { made = m; total_list = written (view_of beat) c ns cs ts d w m })

    pub snapped_two : act ≡ acts.Snapping
        → Snaps (over_head h) rows (view_of beat) true r rows' → Done names counts totals
    snapped_two y w =
        row block priority beat act is makings.Nothing (bench_with r rows') names counts out now acts.Snapping totals y
        (record {
          made = acts_none t block priority out (view_of beat) snapping (bench_with r rows') names counts (takes (view_of beat) r rows' w)
              (makes_snapping h.own (view_of beat) block priority (seen_of t (view_of beat) snapping));
          total_list = kept_totals block priority (view_of beat) snapping tt;
        })

-- ---- Act, once record and lists were judged

module _ (h : Head) (rows : Rows) (names counts totals out : List ℕ) (r : Result (Unit {0}) Refusal)
    (j : Judges (held_with (bench_with h rows) names counts totals) r) where
  abbrev held : State
  held = held_with (bench_with h rows) names counts totals

  -- what the act asks, of its tests
  pub act_acting : (u : Unit {0}) → r ≡ Ok u → most_bytes ≤ length out → Acting h rows names counts totals out
  act_acting u y l =
      let s = served_by held r j u y in
      record {
        tested = record {
          usable = served_usable h rows.even rows.odd rows.proposed rows.priorities names counts totals s;
          room = le-ltb (length out) most_bytes l;
        };
        deciding = served_deciding h rows.even rows.odd rows.proposed rows.priorities names counts totals s;
      }

  module _ (block : Block) (priority : ℕ) where
    abbrev Refused : Refusal → Type 0
    Refused why = ActGives (act_of held block priority out) (Err why) (bench_with h rows) names counts totals out

    -- refused: all is as it was
    act_by : (why : Refusal) → first_failure (act_rows held out) ≡ some (refusal_number why) → Refused why
    act_by why y =
        rw ((act_judged held block priority out).refuses (refusal_number why) y)
        (record { answered = made_refused out why; bench = refl; name_list = refl; count_list = refl; total_list = refl; buffer = refl })

    pub act_refused : (why : Refusal) → r ≡ Err why → Refused why
    act_refused why e =
        act_by why
        (in_front (record_causes held) (act_causes out (idle held.bench)) (refusal_number why) (refused_by held r j why e))

    module _ (u : Unit {0}) (y : r ≡ Ok u) where
      past_record : (k : ℕ) → FailsBy (act_causes out (idle held.bench)) k → first_failure (act_rows held out) ≡ some k
      past_record k f =
          let s = served_by held r j u y in
          first_failure_lem (act_rows held out) k (inr (s.limits, inr (s.lists, inr (s.totals, f))))

      pub act_by_11 : length out < most_bytes → Refused refusals.Buffer
      act_by_11 l = act_by refusals.Buffer (past_record 11 (inl (lt-ltb (length out) most_bytes l, refl)))

      module _ (l : most_bytes ≤ length out) (i : Bool) (g : i ≡ idle (bare h)) where
        pub act_by_22 : i ≡ true → Refused refusals.NoGathering
        act_by_22 v = act_by refusals.NoGathering (past_record 22 (inr (le-ltb (length out) most_bytes l, inl (sym g ∙ v, refl))))

        pub acts_by : (a : Made) (c : Bench) (ns cs ts out' : List ℕ) → i ≡ false
            → ActLeaves totals h.decided
            (acted_of (over (core_of held)) block priority out (view_of (beat_of (bare h))) (act_at (place_in (beat_of (bare h))))) a
            c ns cs ts out'
            → ActGives (act_of held block priority out) (Ok a) c ns cs ts out'
        acts_by a c ns cs ts out' v w =
            let s = served_by held r j u y in
            let m = w.made in
            rw ((act_judged held block priority out).does
            (no_failure (act_rows held out) (s.limits, (s.lists, (s.totals, (le-ltb (length out) most_bytes l, (sym g ∙ v, tt)))))))
            (record {
              answered = m.answered;
              bench = m.bench;
              name_list = m.name_list;
              count_list = m.count_list;
              total_list = w.total_list;
              buffer = m.buffer;
            })
