-- What a call has tested before it does anything, as facts that inner functions ask; no reader needs these. Assumes nothing.
use Rattle.std.specs.Prelude.{ℕ, ◌+◌, ◌≤◌, false, List, ◌≡◌, ltb, length}
use Rattle.message.specs.Limits.{most_blocks}
use Rattle.bench.specs.Layout.{decided_place, most_bytes, too_few_places, short_lists}
use Rattle.bench.specs.Calls.{Core, State}
use Rattle.bench.specs.Record.{beyond}
use Rattle.bench.specs.ByRecord.{wrong_totals}

-- neither 9 nor 8 is to be given, 9 by the totals included
pub record Served (s : State) : Type 0 where
  pub limits : beyond s.bench ≡ false
  pub lists : short_lists s.lent ≡ false
  pub totals : wrong_totals s ≡ false

-- what of it matters to the core
pub record Usable (c : Core) : Type 0 where
  pub limits : beyond c.bench ≡ false
  pub lists : too_few_places c.names c.counts ≡ false

-- and, by an Act, not 11
pub record Tested (c : Core) (out : List ℕ) : Type 0 where
  pub usable : Usable c
  pub room : ltb (length out) most_bytes ≡ false

-- the k blocks from place a on end before the decided log's place
abbrev pub Before : ℕ → ℕ → Type 0
Before a k = (a + k ≤ decided_place) × (k ≤ most_blocks)
