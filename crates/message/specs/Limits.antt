-- The numbers of document 01 that this layer uses, each named once. Assumes nothing.
use Rattle.std.specs.Prelude.{ℕ}

-- "Words": the blocks of a log at the most
abbrev pub most_blocks : ℕ
most_blocks = 64

-- "Words": the last view
abbrev pub last_view : ℕ
last_view = 1000000

-- "The message": bytes of the head, of a name, of an entry count, and of a whole block
abbrev pub head_length : ℕ
head_length = 16

abbrev pub name_width : ℕ
name_width = 8

abbrev pub count_width : ℕ
count_width = 2

abbrev pub block_width : ℕ
block_width = 10
