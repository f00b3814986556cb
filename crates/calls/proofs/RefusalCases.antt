-- 9, 8 and 9 by the totals, which come first in each call on a record: as the code finds them, and what holds where none is given. Assumes
-- nothing.
use Prim.Native.Nat.{ℕ}
use mathlib.Core.Bool.{Bool, true, false}
use mathlib.Core.List.{List, [], ◌∷◌, ◌++◌}
use mathlib.Core.Logic.{inl, inr}
use mathlib.Core.Option.{some}
use mathlib.Core.Path.{◌≡◌, refl, sym, ap, subst, ◌∙◌}
use Rattle.std.specs.Prelude.{Result, Ok, Err}
use Rattle.message.specs.Causes.{Cause, by, first_failure, refused_or}
use Rattle.message.proofs.CauseLaws.{first_failure_lem, failure_append}
use Rattle.message.proofs.ListedLaws.{counts_at}
use Rattle.bench.specs.Layout.{short_lists, decided_place}
use Rattle.bench.specs.Totals.{totals_from, unlike}
use Rattle.bench.specs.Calls.{State, core_of}
use Rattle.bench.specs.Record.{bench_from, beyond}
use Rattle.bench.specs.ByRecord.{wrong_totals, record_causes}
use Rattle.bench.specs.Answers.{lent_as, held_with}
use Rattle.bench.specs.Tested.{Served, Usable}
use Rattle.bench.specs.Refusals.{refusal_number}
use Rattle.bench.specs.declared.refusal.Refusal.{Refusal}
use Rattle.bench.specs.declared.refusal.Refusal.TheVariants as refusals
use Rattle.bench.specs.declared.Head.{Head}
use Rattle.bench.proofs.LimitLaws.{beyond_priorities}
use Rattle.bench.proofs.TestedLaws.{within_limits, lists_roomy, long_blocks, long_totals}
use Rattle.calls.specs.TotalSteps.{decided_counts, Walkable}
use Rattle.calls.specs.Steps.{Judged, Judges, Deciding}

-- the rows in front are given first
pub in_front : (xs ys : List Cause) (k : ℕ) → first_failure xs ≡ some k → first_failure (xs ++ ys) ≡ some k
in_front xs ys k e = failure_append xs ys ∙ ap (refused_or some (first_failure ys)) e

module _ (h : Head) (e o p q names counts totals : List ℕ) where
  abbrev held : State
  held = held_with (bench_from h e o p q) names counts totals

  -- the code walks along the counts alone
  wrong_is : wrong_totals held ≡ unlike (totals_from 0 (decided_counts counts h.decided)) totals
  wrong_is = ap (λ (ks : List ℕ). unlike (totals_from 0 ks) totals) (counts_at names counts decided_place h.decided)

  -- as the code tests them
  module _ (r : Bool) (x : r ≡ beyond (bench_from h e o p q)) where
    pub by_9 : r ≡ true → Judges held (Err refusals.Record)
    by_9 t = record { judged = first_failure_lem (record_causes held) 9 (inl (sym x ∙ t, refl)) }

    module _ (t : r ≡ false) (z : Bool) (f : z ≡ short_lists (lent_as names counts totals)) where
      pub by_8 : z ≡ true → Judges held (Err refusals.Lists)
      by_8 u = record { judged = first_failure_lem (record_causes held) 8 (inr (sym x ∙ t, inl (sym f ∙ u, refl))) }

      module _ (u : z ≡ false) where
        pub asks_walkable : Walkable counts totals h.decided
        asks_walkable = record {
          short = (within_limits (bench_from h e o p q) (sym x ∙ t)).0;
          count_room = (lists_roomy names counts (long_blocks (lent_as names counts totals) (sym f ∙ u))).1;
          total_room = long_totals (lent_as names counts totals) (sym f ∙ u);
        }

        module _ (w : Bool) (g : w ≡ unlike (totals_from 0 (decided_counts counts h.decided)) totals) where
          pub by_totals : w ≡ true → Judges held (Err refusals.Record)
          by_totals v = record
              { judged = first_failure_lem (record_causes held) 9 (inr (sym x ∙ t, inr (sym f ∙ u, inl (wrong_is ∙ sym g ∙ v, refl)))) }

          pub by_none : w ≡ false → Judges held (Ok tt)
          by_none v = record { judged = record { limits = sym x ∙ t; lists = sym f ∙ u; totals = wrong_is ∙ sym g ∙ v } }

  -- ---- where none is given

  module _ (s : Served held) where
    pub served_usable : Usable (core_of held)
    served_usable = record { limits = s.limits; lists = long_blocks (lent_as names counts totals) s.lists }

    pub served_deciding : Deciding h names counts totals
    served_deciding = record {
      decidable = record {
        lists = long_blocks (lent_as names counts totals) s.lists;
        short = (within_limits (bench_from h e o p q) s.limits).0;
      };
      room = long_totals (lent_as names counts totals) s.lists;
      right = sym wrong_is ∙ s.totals;
    }

-- ---- what came of it

module _ (s : State) (r : Result (Unit {0}) Refusal) (j : Judges s r) where
  pub refused_by : (why : Refusal) → r ≡ Err why → first_failure (record_causes s) ≡ some (refusal_number why)
  refused_by why e = subst (Judged s) e j.judged

  pub served_by : (u : Unit {0}) → r ≡ Ok u → Served s
  served_by u e = subst (Judged s) e j.judged

-- ---- priorities do not matter to it

pub judged_whole : (h : Head) (e o p q names counts totals : List ℕ) (r : Result (Unit {0}) Refusal)
    → Judges (held_with (bench_from h e o p []) names counts totals) r → Judges (held_with (bench_from h e o p q) names counts totals) r
judged_whole h e o p q names counts totals (Ok u) j =
    let w = served_by (held_with (bench_from h e o p []) names counts totals) (Ok u) j u refl in
    record {
      judged = record { limits = sym (beyond_priorities (bench_from h e o p []) q) ∙ w.limits; lists = w.lists; totals = w.totals };
    }
judged_whole h e o p q names counts totals (Err why) j =
    let s = held_with (bench_from h e o p []) names counts totals in
    record {
      judged = sym (ap (λ (b : Bool). first_failure (by 9 b ∷ (by 8 (short_lists s.lent) ∷ (by 9 (wrong_totals s) ∷ []))))
          (beyond_priorities (bench_from h e o p []) q)) ∙ j.judged;
    }
