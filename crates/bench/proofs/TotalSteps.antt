-- One step of each definition of Totals.antt: what a walk along the totals cites. Assumes nothing.
use Prim.Native.Nat.{ℕ, zero, suc, ◌+◌, ◌-◌, ◌<◌}
use native.Mathlib.Omega.{arith}
use mathlib.Core.Bool.{false, not, ◌||◌}
use mathlib.Core.List.{List, [], ◌∷◌, ◌++◌}
use mathlib.Core.Path.{◌≡◌, refl}
use lib.Dec.{eqb, ltb}
use lib.ListN.{length, get_or}
use Rattle.message.specs.Choice.{pick}
use Rattle.bench.specs.Totals.{totals_from, unlike, sum_of, block_holding, inside_block}

pub unlike_none : (totals : List ℕ) → unlike [] totals ≡ false
unfolding unlike
unlike_none totals = refl

pub unlike_more : (x : ℕ) (xs : List ℕ) (t : ℕ) (totals : List ℕ) → unlike (x ∷ xs) (t ∷ totals) ≡ (not (eqb t x) || unlike xs totals)
unfolding unlike
unlike_more x xs t totals = refl

-- the total of all of the blocks stands last
pub last_total : (before : ℕ) (ks rest : List ℕ) → get_or (before ∷ (totals_from before ks ++ rest)) (length ks) 0 ≡ before + sum_of ks
unfolding totals_from sum_of
last_total before [] rest = omega arith
last_total before (k ∷ ks) rest = let e = last_total (before + k) ks rest in omega arith

-- each is the one before it, and a count more
pub next_total : (before : ℕ) (ks rest : List ℕ) (i : ℕ) → i < length ks
    → get_or (totals_from before ks ++ rest) i 0 ≡ get_or (before ∷ (totals_from before ks ++ rest)) i 0 + get_or ks i 0
unfolding totals_from
next_total before [] rest i h = absurd (omega arith)
next_total before (k ∷ ks) rest zero h = refl
next_total before (k ∷ ks) rest (suc i) h = next_total (before + k) ks rest i (omega arith)

pub sum_none : sum_of [] ≡ 0
unfolding sum_of
sum_none = refl

pub sum_more : (k : ℕ) (ks : List ℕ) → sum_of (k ∷ ks) ≡ k + sum_of ks
unfolding sum_of
sum_more k ks = refl

pub block_more : (k : ℕ) (ks : List ℕ) (e : ℕ) → block_holding (k ∷ ks) e ≡ pick (ltb e k) 0 (suc (block_holding ks (e - k)))
unfolding block_holding
block_more k ks e = refl

pub inside_more : (k : ℕ) (ks : List ℕ) (e : ℕ) → inside_block (k ∷ ks) e ≡ pick (ltb e k) e (inside_block ks (e - k))
unfolding inside_block
inside_more k ks e = refl
