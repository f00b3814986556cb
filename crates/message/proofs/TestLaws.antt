-- Laws of tests. Assumes nothing.
use mathlib.Core.Path.{◌≡◌, refl, sym, ◌∙◌}
use mathlib.Core.Bool.{Bool, true, false, ◌&&◌, ◌||◌, false≢true}

-- by cases on a test
pub either : {A : Type 0} (t : Bool) → (t ≡ true → A) → (t ≡ false → A) → A
either true f g = f refl
either false f g = g refl

pub or_false : (a b : Bool) → (a || b) ≡ false → (a ≡ false) × (b ≡ false)
or_false true b e = absurd (false≢true (sym e))
or_false false b e = (refl, e)

-- a test, and the rest of it: r is what the code found for the first part
module _ (z r t u : Bool) (e : z ≡ t && u) (f : r ≡ t) where
  pub and_off : r ≡ false → false ≡ z
  and_off g = sym (e ∙ rw (← f, g))

-- a test that holds, or never does, beside another
pub or_true : (t : Bool) → (t || true) ≡ true
or_true true = refl
or_true false = refl

pub or_no : (t : Bool) → (t || false) ≡ t
or_no true = refl
or_no false = refl
