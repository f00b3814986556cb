-- No digits stand behind a mark that is nowhere in the bytes.
use Prim.Native.Nat.{ℕ}
use mathlib.Core.Bool.{true, false, cond, ◌&&◌, ◌||◌}
use mathlib.Core.List.{List, [], ◌∷◌}
use mathlib.Core.Path.{◌≡◌, refl}
use Rattle.std.specs.Prelude.{eqb}
use Rattle.std.specs.Char.{is_ascii_digit}
use Rattle.std.specs.List.{list_any}
use Rattle.script.specs.Marks.{is_mark, digits_from}

-- `last` is the mark before the bytes
pub digits_none : (mark last : ℕ) (bs : List ℕ) → eqb last mark ≡ false → list_any (λ b. eqb b mark) bs ≡ false → digits_from mark last bs ≡ []
digits_none mark last [] other nowhere = refl
digits_none mark last (b ∷ bs) other nowhere =
    elim (eqb b mark) as (λ t. eqb b mark ≡ t → (t || list_any (λ c. eqb c mark) bs) ≡ false → digits_from mark last (b ∷ bs) ≡ []) [
      | true ↦ λ is h. cc
      | false ↦ λ is h.
          let rest : digits_from mark last bs ≡ [] = digits_none mark last bs other h in
          let behind : digits_from mark b bs ≡ [] = digits_none mark b bs is h in
          elim (is_mark b) as (λ t. cond t (digits_from mark b bs) (cond (is_ascii_digit b && eqb last mark) (b ∷ digits_from mark last bs) (digits_from mark last bs)) ≡ []) [
            | true ↦ behind
            | false ↦ elim (is_ascii_digit b) as (λ t. cond (t && eqb last mark) (b ∷ digits_from mark last bs) (digits_from mark last bs) ≡ []) [
              | true ↦ rw other rest
              | false ↦ rest
            ]
          ]
    ] refl nowhere
