-- Running totals of entry counts, and where an entry stands by its number (document 02, request 1). Entries are numbered from 0 through all
-- blocks of a log, and a block of count k holds k of them. Assumes nothing.
use Rattle.std.specs.Prelude.{ℕ, suc, ◌+◌, ◌-◌, Bool, true, false, not, ◌||◌, List, [], ◌∷◌, eqb, ltb, drop}
use Rattle.message.specs.Choice.{pick}
use Rattle.message.specs.Numbers.{put}
use Rattle.message.specs.Logs.{Log, counts_of}

-- ---- the totals

-- of blocks with these counts, where `before` entries stand before them: each total is through its own block
unfoldable pub totals_from : ℕ → List ℕ → List ℕ
totals_from before [] = []
totals_from before (k ∷ ks) = (before + k) ∷ totals_from (before + k) ks

-- those of a log, worked out afresh
abbrev pub totals_of : Log → List ℕ
totals_of L = totals_from 0 (counts_of L)

-- The list does not start with these: what it holds past them is free.
unfoldable pub unlike : List ℕ → List ℕ → Bool
unlike [] totals = false
unlike (x ∷ xs) [] = true
unlike (x ∷ xs) (t ∷ totals) = not (eqb t x) || unlike xs totals

-- "only totals past the old length are written": those of L, from place `old` on (TotalLaws: extended_totals)
abbrev pub extended : List ℕ → ℕ → Log → List ℕ
extended totals old L = put totals old (drop old (totals_of L))

-- ---- the entry of a number

-- how many entries blocks with these counts hold
unfoldable pub sum_of : List ℕ → ℕ
sum_of [] = 0
sum_of (k ∷ ks) = k + sum_of ks

abbrev pub entries_in : Log → ℕ
entries_in L = sum_of (counts_of L)

-- Of entry e: the place of the block that holds it, and its place inside that block, both from 0. A block of count zero is passed over.
-- Where there is no such entry, 23 is given first. (TotalLaws: found_right, found_only)
unfoldable pub block_holding : List ℕ → ℕ → ℕ
block_holding [] e = 0
block_holding (k ∷ ks) e = pick (ltb e k) 0 (suc (block_holding ks (e - k)))

unfoldable pub inside_block : List ℕ → ℕ → ℕ
inside_block [] e = e
inside_block (k ∷ ks) e = pick (ltb e k) e (inside_block ks (e - k))
