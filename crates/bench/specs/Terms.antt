-- What the benches of a volume hold alike, and what one bench is given (document 01, "Words", "Four calls"). Assumes nothing.
use Rattle.std.specs.Prelude.{ℕ, false, List, []}
use Rattle.std.proofs.Math.Option.{Option, none}
use Rattle.message.specs.Message.{Parsed, read_of}
use Rattle.bench.specs.Acts.{Stand}

-- The terms of a volume, its parameters: all its benches have the same.
pub record Terms : Type 0 where
  -- how many benches, numbered 0 to n-1
  pub n : ℕ

-- The weight of bench i in a count: "2 × (supporters) > |S|" counts each bench once.
unfoldable pub weight_of : Terms → ℕ → ℕ
weight_of T i = 1

-- what bytes mean in the volume
abbrev pub read_in : Terms → List ℕ → Parsed
read_in T bytes = read_of T.n bytes

-- A seat is one bench (a validator) of a volume and what it starts from: what it does is worked out from its seat and its list of calls.
pub record Seat : Type 0 where
  pub terms : Terms
  pub own : ℕ
  -- the last beat begun before the list, and what stands then
  pub last : Option ℕ
  pub stood : Stand

-- "a fresh bench with an empty decided log": no beat was begun and no mark is set
abbrev pub nothing_stands : Stand
nothing_stands = record { log = []; parted = false }

abbrev pub seat_of : Terms → ℕ → Seat
seat_of T own = record { terms = T; own = own; last = none; stood = nothing_stands }
