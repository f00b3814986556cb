-- The marks of a clause, and the numbers behind them.
use Rattle.std.specs.Prelude.{ℕ, ◌+◌, ◌-◌, ◌*◌, ◌^◌, Bool, cond, ◌&&◌, ◌||◌, ltb, leb, eqb, List, [], ◌∷◌, fold}
use Rattle.std.specs.Char.{is_ascii_digit}

-- a letter, a bracket or a slash
abbrev pub is_mark : ℕ → Bool
is_mark b = leb 65 b || eqb b 47

-- the digits behind this mark, where `last` is the mark before the bytes
abbrev pub digits_from : ℕ → ℕ → List ℕ → List ℕ
digits_from mark last [] = []
digits_from mark last (b ∷ bs) =
    cond (is_mark b) (digits_from mark b bs)
    (cond (is_ascii_digit b && eqb last mark) (b ∷ digits_from mark last bs) (digits_from mark last bs))

-- before the first mark it is 0
abbrev pub digits_behind : ℕ → List ℕ → List ℕ
digits_behind mark said = digits_from mark 0 said

-- a digit more, as far as there is room
abbrev pub with_digit : ℕ → ℕ → ℕ
with_digit x digit = cond (ltb x (10 ^ 18)) (10 * x + (digit - 48)) x

abbrev pub number_behind : ℕ → List ℕ → ℕ
number_behind mark said = fold with_digit 0 (digits_behind mark said)
