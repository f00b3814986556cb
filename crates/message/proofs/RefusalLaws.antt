-- The numbers of the reader's refusals: each its own, from 1 to 6. Assumes nothing.
use Prim.Native.Nat.{ℕ, ◌≤◌}
use native.Mathlib.Omega.{arith}
use mathlib.Core.Path.{◌≡◌, refl, sym, ap, ◌∙◌}
use lib.Dec.{eqb}
use Rattle.message.specs.Choice.{pick}
use Rattle.message.specs.Refusals.{number_of}
use Rattle.message.specs.declared.refusal.Refusal.{Refusal}
use Rattle.message.specs.declared.refusal.Refusal.TheVariants.{Short, Length, Form, Sender, View, Name}

-- the refusal of a number
abbrev pub refusal_of : ℕ → Refusal
refusal_of k =
    pick (eqb k 1) Short (pick (eqb k 2) Length (pick (eqb k 3) Form (pick (eqb k 4) Sender (pick (eqb k 5) View Name))))

pub refusal_back : (why : Refusal) → refusal_of (number_of why) ≡ why
refusal_back Short = refl
refusal_back Length = refl
refusal_back Form = refl
refusal_back Sender = refl
refusal_back View = refl
refusal_back Name = refl

pub number_of_injective : (a b : Refusal) → number_of a ≡ number_of b → a ≡ b
number_of_injective a b e = sym (refusal_back a) ∙ ap refusal_of e ∙ refusal_back b

pub number_of_range : (why : Refusal) → (1 ≤ number_of why) × (number_of why ≤ 6)
number_of_range Short = (omega arith, omega arith)
number_of_range Length = (omega arith, omega arith)
number_of_range Form = (omega arith, omega arith)
number_of_range Sender = (omega arith, omega arith)
number_of_range View = (omega arith, omega arith)
number_of_range Name = (omega arith, omega arith)
