-- The clause at the front of a script: what is written of it, what is read of it, what ends it, and what is left behind it.
use Rattle.script.specs.declared.Clause.{Clause}
use Rattle.std.specs.Prelude.{ℕ, ◌-◌, Bool, cond, not, ◌||◌, eqb, List, [], ◌∷◌, length, Option, None, Some, take, drop, get_or, ◌≡◌}
use Rattle.std.specs.List.{position_or_len, suffix_len}

-- a semicolon, a line end or a #
abbrev pub is_stop : ℕ → Bool
is_stop b = (eqb b 59 || eqb b 10) || eqb b 35

abbrev pub is_line_end : ℕ → Bool
is_line_end b = eqb b 10

-- before the first stop, and from it on
abbrev pub front : List ℕ → List ℕ
front script = take (position_or_len is_stop script) script

abbrev pub from_stop : List ℕ → List ℕ
from_stop script = drop (position_or_len is_stop script) script

abbrev pub has_comment : List ℕ → Bool
has_comment script = eqb (get_or (from_stop script) 0 0) 35

-- from the end of the clause on; a comment goes to the end of its line
abbrev pub from_end : List ℕ → List ℕ
from_end script =
    cond (has_comment script) (drop (position_or_len is_line_end (from_stop script)) (from_stop script)) (from_stop script)

-- behind the last bar; 0 where there is none
abbrev pub said_place : List ℕ → ℕ
said_place text = length text - suffix_len (λ b. not (eqb b 124)) text

abbrev pub before_bar : List ℕ → List ℕ
before_bar text = cond (eqb (said_place text) 0) text (take (said_place text - 1) text)

abbrev pub text_of : List ℕ → List ℕ
text_of script = cond (has_comment script) (front script) (before_bar (front script))

abbrev pub said_of : List ℕ → List ℕ
said_of script = cond (has_comment script) [] (drop (said_place (front script)) (front script))

-- none where nothing of it is written; the end of the script ends a line
abbrev pub end_by : List ℕ → ℕ → Option ℕ
end_by [] b = None
end_by (_ ∷ _) b = Some b

abbrev pub end_of : List ℕ → Option ℕ
end_of script = end_by (text_of script) (get_or (from_end script) 0 10)

-- this clause stands at the front of the script, and the rest is left behind it
pub record IsFront (script : List ℕ) (c : Clause) (rest : List ℕ) : Type 0 where
  pub text : c.text.now ≡ text_of script
  pub said : c.said.now ≡ said_of script
  pub end : c.end ≡ end_of script
  pub left : rest ≡ drop 1 (from_end script)
