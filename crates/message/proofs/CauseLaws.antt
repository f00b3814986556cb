-- The three laws of refusals as rows, over any list of causes: which number is given, when none is, and the order. Assumes nothing.
use Prim.Native.Nat.{ℕ}
use mathlib.Core.Bool.{Bool, true, false, ◌||◌, false≢true}
use mathlib.Core.List.{List, [], ◌∷◌, ◌++◌}
use mathlib.Core.Logic.{◌⊎◌, inl, inr}
use mathlib.Core.Option.{Option, some, none, none-ne-some, some-ne-none, some-injective}
use mathlib.Core.Path.{◌≡◌, refl, sym, ap, ◌∙◌}
use lib.Dec.{eqb}
use borrow.Author.Tests.{eq-eqb}
use Rattle.message.specs.Causes.{Cause, by, first_failure, refused_or, judged_by}
use Rattle.message.proofs.TestLaws.{either, or_false}

-- ---- which number is given, and when none is

-- rows whose tests do not hold, and then one of number k whose test does
abbrev pub FailsBy : List Cause → ℕ → Type 0
FailsBy [] k = ⊥
FailsBy (c ∷ cs) k = ((c.test ≡ true) × (c.number ≡ k)) ⊎ ((c.test ≡ false) × FailsBy cs k)

-- no row's test holds
abbrev pub Passes : List Cause → Type 0
Passes [] = Unit {0}
Passes (c ∷ cs) = (c.test ≡ false) × Passes cs

pub fails_by : (cs : List Cause) (k : ℕ) → first_failure cs ≡ some k → FailsBy cs k
unfolding first_failure
fails_by [] k e = none-ne-some k e
fails_by (c ∷ cs) k e =
    either c.test (λ t. inl (t, some-injective c.number k (rw t at e))) (λ t. inr (t, fails_by cs k (rw t at e)))

pub first_failure_lem : (cs : List Cause) (k : ℕ) → FailsBy cs k → first_failure cs ≡ some k
unfolding first_failure
first_failure_lem [] k e = absurd e
first_failure_lem (c ∷ cs) k (inl x) = rw x.0 (ap some x.1)
first_failure_lem (c ∷ cs) k (inr x) = rw x.0 (first_failure_lem cs k x.1)

pub passes : (cs : List Cause) → first_failure cs ≡ none → Passes cs
unfolding first_failure
passes [] e = tt
passes (c ∷ cs) e = either c.test (λ t. absurd (some-ne-none c.number (rw t at e))) (λ t. (t, passes cs (rw t at e)))

pub no_failure : (cs : List Cause) → Passes cs → first_failure cs ≡ none
unfolding first_failure
no_failure [] x = refl
no_failure (c ∷ cs) x = rw x.0 (no_failure cs x.1)

-- ---- the order: the rows in front come first

pub failure_append : (xs ys : List Cause) → first_failure (xs ++ ys) ≡ refused_or some (first_failure ys) (first_failure xs)
unfolding first_failure
failure_append [] ys = refl
failure_append (c ∷ xs) ys = either c.test (λ t. rw t) (λ t. rw t (failure_append xs ys))

-- where the rows in front pass, the others alone matter
pub later_alike : (xs ys zs : List Cause) → (Passes xs → first_failure ys ≡ first_failure zs) → first_failure (xs ++ ys) ≡ first_failure (xs ++ zs)
unfolding first_failure
later_alike [] ys zs h = h tt
later_alike (c ∷ xs) ys zs h = either c.test (λ t. rw t) (λ t. rw t (later_alike xs ys zs (λ p. h (t, p))))

pub passes_both : (xs ys : List Cause) → Passes xs → Passes ys → Passes (xs ++ ys)
passes_both [] ys p q = q
passes_both (c ∷ xs) ys p q = (p.0, passes_both xs ys p.1 q)

pub passes_each : (xs ys : List Cause) → Passes (xs ++ ys) → Passes xs × Passes ys
passes_each [] ys p = (tt, p)
passes_each (c ∷ xs) ys p = let q = passes_each xs ys p.1 in ((p.0, q.0), q.1)

-- ---- a number is given exactly where the rows in front pass and its own test holds, if no other row has it

abbrev pub listed : ℕ → List Cause → Bool
listed k [] = false
listed k (c ∷ cs) = eqb c.number k || listed k cs

pub unlisted : (cs : List Cause) (k : ℕ) → listed k cs ≡ false → FailsBy cs k → ⊥
unlisted [] k n f = f
unlisted (c ∷ cs) k n (inl x) = false≢true (sym (or_false _ _ n).0 ∙ eq-eqb c.number k x.1)
unlisted (c ∷ cs) k n (inr x) = unlisted cs k (or_false (eqb c.number k) (listed k cs) n).1 x.1

module _ (ys : List Cause) (k : ℕ) (t : Bool) where
  pub row_given : (xs : List Cause) → Passes xs → t ≡ true → first_failure (xs ++ (by k t ∷ ys)) ≡ some k
  unfolding first_failure
  row_given [] p e = rw e
  row_given (c ∷ xs) p e = rw p.0 (row_given xs p.1 e)

  pub row_only : (xs : List Cause) → listed k xs ≡ false → listed k ys ≡ false → first_failure (xs ++ (by k t ∷ ys)) ≡ some k
      → Passes xs × (t ≡ true)
  row_only xs n m e = go xs n (fails_by (xs ++ (by k t ∷ ys)) k e)
    where
      go : (xs : List Cause) → listed k xs ≡ false → FailsBy (xs ++ (by k t ∷ ys)) k → Passes xs × (t ≡ true)
      go [] n (inl x) = (tt, x.0)
      go [] n (inr x) = absurd (unlisted ys k m x.1)
      go (c ∷ xs) n (inl x) = absurd (false≢true (sym (or_false _ _ n).0 ∙ eq-eqb c.number k x.1))
      go (c ∷ xs) n (inr x) = let q = go xs (or_false (eqb c.number k) (listed k xs) n).1 x.1 in ((x.0, q.0), q.1)

-- ---- a call judged by its causes

module _ {A : Type 0} (refuse : ℕ → A) (x : A) where
  pub judged_refused : (cs : List Cause) (k : ℕ) → first_failure cs ≡ some k → judged_by cs refuse x ≡ refuse k
  unfolding judged_by
  judged_refused cs k e = rw e

  pub judged_done : (cs : List Cause) → first_failure cs ≡ none → judged_by cs refuse x ≡ x
  unfolding judged_by
  judged_done cs e = rw e

  -- what holds of each refusal, and of what is done
  pub judged : (P : A → Type 0) (cs : List Cause) → ((k : ℕ) → first_failure cs ≡ some k → P (refuse k)) → (first_failure cs ≡ none → P x)
      → P (judged_by cs refuse x)
  unfolding judged_by
  judged P cs f g = go (first_failure cs) refl
    where
      go : (o : Option ℕ) → first_failure cs ≡ o → P (refused_or refuse x o)
      go none e = g e
      go (some k) e = f k e

  -- the causes in front are judged first, and fall away where they pass
  judged_append : (xs ys : List Cause) → judged_by (xs ++ ys) refuse x ≡ judged_by xs refuse (judged_by ys refuse x)
  unfolding judged_by first_failure
  judged_append [] ys = refl
  judged_append (c ∷ xs) ys = either c.test (λ t. rw t) (λ t. rw t (judged_append xs ys))

  pub judged_past : (xs ys : List Cause) → Passes xs → judged_by (xs ++ ys) refuse x ≡ judged_by ys refuse x
  unfolding judged_by first_failure
  judged_past [] ys p = refl
  judged_past (c ∷ xs) ys p = rw p.0 (judged_past xs ys p.1)

-- two calls judged by the same causes come to the same, as far as h tells, if what each does and each refusal does
pub judged_alike : {A B : Type 0} (h : A → B) (cs : List Cause) (f g : ℕ → A) (x y : A) → ((k : ℕ) → h (f k) ≡ h (g k)) → h x ≡ h y
    → h (judged_by cs f x) ≡ h (judged_by cs g y)
unfolding judged_by
judged_alike h cs f g x y d e = go (first_failure cs)
  where
    go : (o : Option ℕ) → h (refused_or f x o) ≡ h (refused_or g y o)
    go none = e
    go (some k) = d k
