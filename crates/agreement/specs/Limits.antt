-- The numbers of document 01 that this layer adds, each named once. Assumes nothing.
use Rattle.std.specs.Prelude.{ℕ, ◌+◌, ◌*◌}
use Rattle.message.specs.Limits.{most_blocks}

-- "Words": the benches of a volume at the most; a record has a place for each
abbrev pub most_senders : ℕ
most_senders = 32

-- "Four calls": the places that one log of each sender takes, 64 blocks apiece
abbrev pub span : ℕ
span = most_senders * most_blocks

-- where sender i's log stands, of those that stand from `base` on
abbrev pub place_of : ℕ → ℕ → ℕ
place_of base i = base + most_blocks * i
