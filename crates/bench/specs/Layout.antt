-- Where logs stand in the lent lists (document 01, "Four calls"), and the tests of what is handed to Open. Assumes nothing.
use Rattle.std.specs.Prelude.{ℕ, ◌+◌, ◌*◌, ◌%◌, Bool, ◌||◌, List, eqb, leb, ltb, length}
use Rattle.message.specs.Choice.{pick}
use Rattle.message.specs.Limits.{most_blocks, head_length, block_width}
use Rattle.agreement.specs.Limits.{most_senders, span}

-- "two agreements of 32 logs, 32 proposed logs, one decided log, 64 blocks apiece": those of the even view first, then of the odd
abbrev pub is_even : ℕ → Bool
is_even v = eqb (v % 2) 0

abbrev pub logs_place : ℕ → ℕ
logs_place v = pick (is_even v) 0 span

abbrev pub proposals_place : ℕ
proposals_place = 2 * span

abbrev pub decided_place : ℕ
decided_place = 3 * span

-- "at least 6,208 of each"
abbrev pub least_lent : ℕ
least_lent = decided_place + most_blocks

-- the longest message: 656 bytes
abbrev pub most_bytes : ℕ
most_bytes = head_length + block_width * most_blocks

-- the three lent lists: block names, entry counts, and the running totals of the decided log's counts
pub record Lent : Type 0 where
  pub names : List ℕ
  pub counts : List ℕ
  pub totals : List ℕ

-- the names or the counts are too short
abbrev pub too_few_places : List ℕ → List ℕ → Bool
too_few_places names counts = ltb (length names) least_lent || ltb (length counts) least_lent

-- the totals are: "at least 64"
abbrev pub too_few_totals : List ℕ → Bool
too_few_totals totals = ltb (length totals) most_blocks

-- 8: a lent list is
abbrev pub short_lists : Lent → Bool
short_lists l = too_few_places l.names l.counts || too_few_totals l.totals

-- 7 and 9: n is not 1 to 32, or the own number not below n
abbrev pub out_of_range : ℕ → ℕ → Bool
out_of_range n own = eqb n 0 || (ltb most_senders n || leb n own)
