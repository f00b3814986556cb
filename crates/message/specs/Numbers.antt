-- Numbers in lists, and little-endian numbers in bytes (document 01, "The message"). Assumes nothing.
use Rattle.std.specs.Prelude.{ℕ, zero, suc, ◌+◌, ◌*◌, ◌/◌, ◌%◌, ◌<◌, List, [], ◌∷◌, ◌++◌, leb, length, get_or, set}
use Rattle.message.specs.Choice.{pick}

-- ---- parts of a list

-- the k numbers of l from place a on
unfoldable pub part : List ℕ → ℕ → ℕ → List ℕ
part l a zero = []
part l a (suc k) = get_or l a 0 ∷ part l (a + 1) k

-- l with xs written over it from place a on; every other place keeps its value
unfoldable pub put : List ℕ → ℕ → List ℕ → List ℕ
put l a [] = l
put l a (x ∷ xs) = put (set l a x) (a + 1) xs

-- every number of l is below B
abbrev pub AllBelow : ℕ → List ℕ → Type 0
AllBelow B l = (i : ℕ) → get_or l i 0 < B

-- ---- little-endian numbers

-- the number in the w bytes of s from place a on, lowest byte first
unfoldable pub number_at : ℕ → List ℕ → ℕ → ℕ
number_at zero s a = 0
number_at (suc w) s a = get_or s a 0 + 256 * number_at w s (a + 1)

-- that number where its bytes all lie in s, else zero: what a layer above may ask for at any place
unfoldable pub number_in : ℕ → List ℕ → ℕ → ℕ
number_in w s a = pick (leb (a + w) (length s)) (number_at w s a) 0

-- the k numbers of w bytes each from place a on
unfoldable pub numbers_at : ℕ → List ℕ → ℕ → ℕ → List ℕ
numbers_at w s a zero = []
numbers_at w s a (suc k) = number_at w s a ∷ numbers_at w s (a + w) k

-- x in w bytes, lowest byte first
unfoldable pub bytes_for : ℕ → ℕ → List ℕ
bytes_for zero x = []
bytes_for (suc w) x = x % 256 ∷ bytes_for w (x / 256)

-- each of xs in w bytes, one after the other
unfoldable pub bytes_for_each : ℕ → List ℕ → List ℕ
bytes_for_each w [] = []
bytes_for_each w (x ∷ xs) = bytes_for w x ++ bytes_for_each w xs
