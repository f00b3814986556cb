-- Refusals as rows: a call has a list of causes, and "First failure is given" (document 01, "From the state"). Assumes nothing.
use Rattle.std.specs.Prelude.{ℕ, Bool, List, [], ◌∷◌}
use Rattle.std.proofs.Math.Option.{Option, some, none}
use Rattle.message.specs.Choice.{pick}

-- A cause of refusal: its number, and a test that holds where it is a failure.
pub record Cause : Type 0 where
  pub number : ℕ
  pub test : Bool

-- one row, as the document has it: the number and the test
abbrev pub by : ℕ → Bool → Cause
by k t = record { number = k; test = t }

-- the number of the first cause whose test holds
unfoldable pub first_failure : List Cause → Option ℕ
first_failure [] = none
first_failure (c ∷ cs) = pick c.test (some c.number) (first_failure cs)

abbrev pub refused_or : {A : Type 0} → (ℕ → A) → A → Option ℕ → A
refused_or refuse x none = x
refused_or refuse x (some k) = refuse k

-- A call judged by its causes: refused by that number, or else done.
unfoldable pub judged_by : {A : Type 0} → List Cause → (ℕ → A) → A → A
judged_by cs refuse x = refused_or refuse x (first_failure cs)
