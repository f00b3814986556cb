-- What the inner functions over the totals ask and promise: steps on the way to the definitions of bench's ByRecord, which they do not add
-- to. Assumes nothing.
use Rattle.std.specs.Prelude.{ℕ, ◌+◌, ◌*◌, ◌-◌, ◌^◌, ◌≤◌, ◌<◌, false, List, [], ◌∷◌, ◌≡◌, ltb, length, get_or, Result, Ok, Err}
use Rattle.message.specs.Limits.{most_blocks}
use Rattle.message.specs.Choice.{pick}
use Rattle.message.specs.Numbers.{part}
use Rattle.bench.specs.Layout.{decided_place, least_lent}
use Rattle.bench.specs.Totals.{totals_from, unlike}
use Rattle.bench.specs.declared.Entry.{Entry}
use Rattle.bench.specs.declared.refusal.Refusal.{Refusal}
use Rattle.bench.specs.declared.refusal.Refusal.TheVariants.{NoEntry}

-- the counts of the first k decided blocks
abbrev pub decided_counts : List ℕ → ℕ → List ℕ
decided_counts counts k = part counts decided_place k

-- what a walk along a decided log of k blocks and its totals asks: the lists are long enough, and k within its limit
pub record Walkable (counts totals : List ℕ) (k : ℕ) : Type 0 where
  pub short : k ≤ most_blocks
  pub count_room : least_lent ≤ length counts
  pub total_room : most_blocks ≤ length totals

-- what writing the totals of blocks with these counts asks: there is a place for each, and the last fits
pub record Writable (counts totals : List ℕ) (before : ℕ) : Type 0 where
  pub room : length counts ≤ length totals
  pub fits : before + 65535 * length counts < 2 ^ 32

-- what extending the totals from the old length to the new asks: those of the old log stand
pub record Extensible (counts totals : List ℕ) (old new : ℕ) : Type 0 where
  pub right : unlike (totals_from 0 (decided_counts counts old)) totals ≡ false
  pub walkable : Walkable counts totals new

-- what finding an entry in the first k blocks asks of the totals: each block holds no more entries than a count says
pub record Rising (totals : List ℕ) (k : ℕ) : Type 0 where
  pub short : k ≤ most_blocks
  pub room : most_blocks ≤ length totals
  pub steps : (i : ℕ) → i < k → get_or totals i 0 < get_or (0 ∷ totals) i 0 + 2 ^ 16

-- where entry e is, by the totals of the blocks from place i on, and the total before them
unfoldable pub entry_among : ℕ → ℕ → List ℕ → ℕ → Result Entry Refusal
entry_among i before [] e = Err NoEntry
entry_among i before (t ∷ ts) e = pick (ltb e t) (Ok (record { block = i; inside = e - before })) (entry_among (i + 1) t ts e)
