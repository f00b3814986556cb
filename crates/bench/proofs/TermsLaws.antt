-- Each bench weighs one, so that to weigh a set of benches is to count it. Assumes nothing.
use Prim.Native.Nat.{ℕ}
use mathlib.Core.Path.{◌≡◌, refl}
use mathlib.Core.Bool.{Bool}
use Rattle.agreement.specs.Sets.{weigh, count}
use Rattle.bench.specs.Terms.{Terms, weight_of}

pub weigh_counts : (T : Terms) (p : ℕ → Bool) → weigh T.n (weight_of T) p ≡ count T.n p
unfolding weight_of
weigh_counts T p = refl
