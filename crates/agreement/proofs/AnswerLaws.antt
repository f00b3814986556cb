-- The code's answers, read as document 01's: nothing is lost by it, but for which sender's log a grade's answer points at. Assumes nothing.
use Prim.Native.Nat.{ℕ}
use mathlib.Core.List.{List}
use mathlib.Core.Option.{Option, some, none, some-ne-none}
use mathlib.Core.Logic.{◌↔◌}
use mathlib.Core.Path.{◌≡◌, refl, sym, ap, ◌∙◌}
use Rattle.std.specs.Prelude as std
use Rattle.std.specs.Prelude.{Some, None}
use Rattle.message.specs.Store.{log_at}
use Rattle.agreement.specs.Limits.{place_of}
use Rattle.agreement.specs.Filing.{Word, first, second, known, word_of}
use Rattle.agreement.specs.Grades.{log_of}
use Rattle.agreement.specs.Proposals.{chosen}
use Rattle.agreement.specs.declared.Answer.{Answer}
use Rattle.agreement.specs.declared.Answer.TheVariants.{First, Second, Known}
use Rattle.agreement.specs.declared.Longest.{Longest}

-- a word has one answer
abbrev answer_of : Word → Answer
answer_of first = First
answer_of second = Second
answer_of known = Known

answer_back : (a : Answer) → answer_of (word_of a) ≡ a
answer_back First = refl
answer_back Second = refl
answer_back Known = refl

pub word_of_injective : (a b : Answer) → word_of a ≡ word_of b → a ≡ b
word_of_injective a b e = sym (answer_back a) ∙ ap answer_of e ∙ answer_back b

-- a sender, or none, has one choice
abbrev choice_back : Option ℕ → std.Option ℕ
choice_back none = None
choice_back (some i) = Some i

choice_back_lem : (c : std.Option ℕ) → choice_back (chosen c) ≡ c
choice_back_lem (Some i) = refl
choice_back_lem None = refl

pub chosen_injective : (c d : std.Option ℕ) → chosen c ≡ chosen d → c ≡ d
chosen_injective c d e = sym (choice_back_lem c) ∙ ap choice_back e ∙ choice_back_lem d

-- none is answered exactly where there is no log
pub nothing_iff : (names counts : List ℕ) (base : ℕ) (r : std.Option Longest) → (log_of names counts base r ≡ none) ↔ (r ≡ None)
nothing_iff names counts base None = (λ e. refl, λ e. refl)
nothing_iff names counts base (Some p) =
    (λ e. absurd (some-ne-none (log_at names counts (place_of base p.sender) p.blocks) e), λ e. ap (log_of names counts base) e)
