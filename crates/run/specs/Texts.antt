-- Text as bytes: words in ASCII, and numbers in decimal (document 01, "The roll"). Assumes nothing.
use Prim.Native.Char.{code}
use Rattle.std.specs.Prelude.{ℕ, zero, suc, ◌+◌, ◌/◌, ◌%◌, List, [], ◌∷◌, ◌++◌, ltb}
use Prim.Native.String.{String, [] as end, ◌∷◌ as ◌then◌}
use Rattle.message.specs.Choice.{pick}

-- a text's characters, each by its code
abbrev pub ascii : String → List ℕ
ascii end = []
ascii (c then rest) = code c ∷ ascii rest

-- The digits of x, highest first and no zero before them; of a number with more than m digits, the last m.
unfoldable pub digits : ℕ → ℕ → List ℕ
digits zero x = []
digits (suc m) x = pick (ltb x 10) ((48 + x) ∷ []) (digits m (x / 10) ++ ((48 + x % 10) ∷ []))

-- the most digits of a number of 32 bits
abbrev pub most_digits : ℕ
most_digits = 10

-- "Numbers print in decimal."
abbrev pub decimal : ℕ → List ℕ
decimal x = digits most_digits x
