-- A number's digits say the number, and no zero stands before them (document 01: "Numbers print in decimal"). Assumes nothing.
use Prim.Native.Nat.{ℕ, zero, suc, ◌+◌, ◌-◌, ◌*◌, ◌/◌, ◌%◌, ◌^◌, ◌<◌}
use native.Mathlib.Nat.{pow-suc, div-lt_iff_lt-mul, zero-lt-suc}
use native.Mathlib.Omega.{arith}
use mathlib.Core.List.{List, [], ◌∷◌, ◌++◌}
use mathlib.Core.Path.{◌≡◌, refl, ◌∙◌}
use borrow.Author.Tests.{ltb-false}
use lib.Dec.{ltb}
use lib.ListN.{get_or}
use Rattle.message.proofs.TestLaws.{either}
use Rattle.run.specs.Texts.{digits, decimal, most_digits}

-- what digits after a number x say
unfoldable pub said_after : ℕ → List ℕ → ℕ
said_after x [] = x
said_after x (d ∷ ds) = said_after (x * 10 + (d - 48)) ds

said_snoc : (x d : ℕ) (ds : List ℕ) → said_after x (ds ++ (d ∷ [])) ≡ said_after x ds * 10 + (d - 48)
unfolding said_after
said_snoc x d [] = refl
said_snoc x d (e ∷ ds) = said_snoc (x * 10 + (e - 48)) d ds

digits_say : (m x : ℕ) → x < 10 ^ m → said_after 0 (digits m x) ≡ x
unfolding digits said_after
digits_say zero x h = omega arith
digits_say (suc m) x h =
    either (ltb x 10)
    (λ few. rw few (omega arith))
    (λ more.
    let d : x / 10 < 10 ^ m = (div-lt_iff_lt-mul (zero-lt-suc 9)).1 (rw (pow-suc 10 m) at h) in
    let e = digits_say m (x / 10) d in
    rw more (said_snoc 0 (48 + x % 10) (digits m (x / 10)) ∙ omega arith))

first_kept : (ds es : List ℕ) → 48 < get_or ds 0 0 → 48 < get_or (ds ++ es) 0 0
first_kept [] es h = absurd (omega arith)
first_kept (d ∷ ds) es h = h

pub no_zero_before : (m x : ℕ) → 0 < x → x < 10 ^ m → 48 < get_or (digits m x) 0 0
unfolding digits
no_zero_before zero x h k = absurd (omega arith)
no_zero_before (suc m) x h k =
    either (ltb x 10)
    (λ few. rw few (omega arith))
    (λ more.
    let n = ltb-false x 10 more in
    let d : x / 10 < 10 ^ m = (div-lt_iff_lt-mul (zero-lt-suc 9)).1 (rw (pow-suc 10 m) at k) in
    rw more (first_kept (digits m (x / 10)) ((48 + x % 10) ∷ []) (no_zero_before m (x / 10) (omega arith) d)))

-- a number of 32 bits
pub decimal_says : (x : ℕ) → x < 2 ^ 32 → said_after 0 (decimal x) ≡ x
decimal_says x h = digits_say most_digits x (omega arith)
