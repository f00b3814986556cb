-- A grade that an act reads with a snapshot: the snapshot has its act, and the log given is the longest of that reading. Assumes nothing.
use Prim.Native.Nat.{ℕ}
use mathlib.Core.Path.{◌≡◌, refl, sym, subst, ◌∙◌}
use mathlib.Core.List.{List, ◌++◌}
use mathlib.Core.Option.{Option, some, none, none-ne-some}
use Rattle.message.specs.Logs.{Log}
use Rattle.message.specs.Message.{Content}
use Rattle.agreement.specs.Reading.{LongestLog}
use Rattle.agreement.specs.Heard.{heard_logs, voters_of, reading_from, grade_with}
use Rattle.agreement.proofs.GradeSources.{grade_with_none}
use Rattle.agreement.proofs.SenderLaws.{grade_longest}
use Rattle.bench.specs.Terms.{Seat, weight_of}
use Rattle.bench.specs.Calls.{Call}
use Rattle.bench.specs.History.{snapshot_of, heard_at, after}
use Rattle.demand.specs.Places.{ActsAfter}
use Rattle.demand.proofs.ActPlaces.{heard_at_place}

module _ (S : Seat) (cs : List Call) where
  -- the reading of view u after `pre`, with the snapshot taken after `start`
  abbrev pub ReadAfter : List Call → ℕ → List Call → Log → Type 0
  ReadAfter pre u start L =
      LongestLog S.terms.n (weight_of S.terms)
      (reading_from (heard_logs (after S pre).heard u) (voters_of (heard_logs (after S start).heard u))) L

  -- L is that reading's longest log, the snapshot being of beat s
  pub record GradedAt (pre : List Call) (u s : ℕ) (L : Log) : Type 0 where
    pub start : List Call
    pub acts : ActsAfter S cs start s
    pub longest : ReadAfter pre u start L

  pub graded_at : (pre post : List Call) → cs ≡ pre ++ post → (u s : ℕ) (L : Log)
      → grade_with S.terms.n (weight_of S.terms) (heard_logs (after S pre).heard u)
      (snapshot_of u (heard_at (after S pre).actions s)) ≡ some L → GradedAt pre u s L
  graded_at pre post e u s L q = go (heard_at (after S pre).actions s) refl q
    where
      go : (o : Option (List Content)) → heard_at (after S pre).actions s ≡ o
          → grade_with S.terms.n (weight_of S.terms) (heard_logs (after S pre).heard u) (snapshot_of u o) ≡ some L → GradedAt pre u s L
      go none f g =
          absurd (none-ne-some _ (sym (grade_with_none S.terms.n (weight_of S.terms) (heard_logs (after S pre).heard u)) ∙ g))
      go (some l) f g =
          let z = heard_at_place S cs pre post e s l f in
          let y = grade_longest S.terms.n (weight_of S.terms) (heard_logs (after S pre).heard u) (voters_of (heard_logs l u)) L g in
          record {
            start = z.0;
            acts = z.1;
            longest =
                subst (λ (h : List Content). LongestLog S.terms.n (weight_of S.terms)
                (reading_from (heard_logs (after S pre).heard u) (voters_of (heard_logs h u))) L) z.2 y;
          }
