-- Laws of a machine along a list of calls. Assumes nothing.
use mathlib.Core.Path.{◌≡◌, refl, ap}
use mathlib.Core.List.{List, [], ◌∷◌, ◌++◌}
use Rattle.bench.specs.Calls.{Call, State}
use Rattle.demand.specs.Demand.{Machine, byValue, call, Event, calls_in, runs, answers}

-- ---- the calls

pub calls_in-append : (pre post : List Event) → calls_in (pre ++ post) ≡ calls_in pre ++ calls_in post
unfolding calls_in
calls_in-append [] post = refl
calls_in-append (e ∷ es) post = ap (λ (l : List Call). e.what ∷ l) (calls_in-append es post)

-- a list of calls by value
abbrev pub by_values : List Call → List Event
by_values [] = []
by_values (c ∷ cs) = record { way = byValue; what = c } ∷ by_values cs

pub calls_by_values : (cs : List Call) → calls_in (by_values cs) ≡ cs
unfolding calls_in
calls_by_values [] = refl
calls_by_values (c ∷ cs) = ap (λ (l : List Call). c ∷ l) (calls_by_values cs)

-- ---- what they leave and answer

module _ (M : Machine) (x : State) where
  pub runs_nil : runs M x [] ≡ x
  unfolding runs
  runs_nil = refl

  pub runs_cons : (e : Event) (es : List Event) → runs M x (e ∷ es) ≡ runs M (call M e.way x e.what).held es
  unfolding runs
  runs_cons e es = refl

  pub answers_nil : answers M x [] ≡ []
  unfolding answers
  answers_nil = refl

  pub answers_cons : (e : Event) (es : List Event) → answers M x (e ∷ es)
      ≡ (call M e.way x e.what).answer ∷ answers M (call M e.way x e.what).held es
  unfolding answers
  answers_cons e es = refl
