-- The record by its parts, as the code makes it. Assumes nothing.
use Prim.Native.Nat.{ℕ}
use mathlib.Core.Bool.{Bool, true, false}
use mathlib.Core.List.{List}
use mathlib.Core.Path.{◌≡◌, sym, ◌∙◌}
use lib.ListN.{replicate}
use Rattle.message.specs.Choice.{pick}
use Rattle.message.proofs.TestLaws.{either}
use Rattle.agreement.specs.Limits.{most_senders, span}
use Rattle.agreement.specs.Record.{agreement_from, empty_marks}
use Rattle.agreement.specs.Proposals.{proposals_from, empty_shown}
use Rattle.agreement.specs.declared.Marks.{Marks}
use Rattle.agreement.specs.declared.Shown.{Shown}
use Rattle.bench.specs.Layout.{is_even, logs_place}
use Rattle.bench.specs.Calendar.{logs_shut, proposals_shut}
use Rattle.bench.specs.Record.{bench_from, of_view, agreement_of}
use Rattle.bench.specs.ByRecord.{kept_agreement, kept_proposals}
use Rattle.bench.specs.declared.Head.{Head}
use Rattle.bench.proofs.Slots.{agreement_even, agreement_odd, agreement_forgotten, agreement_kept, proposals_forgotten, proposals_kept}

-- ---- by the parity of a view

-- the agreement in its slot
pub slot_is : (h : Head) (e o p q : List ℕ) (v : ℕ) (m : Marks) (lengths : List ℕ) → m ≡ pick (is_even v) h.even h.odd
    → lengths ≡ pick (is_even v) e o → of_view (agreement_from m lengths) v ≡ agreement_of (bench_from h e o p q) v
slot_is h e o p q v m lengths x y =
    either (is_even v)
    (λ t. rw (x, y, t) (sym (agreement_even (bench_from h e o p q) v t)))
    (λ t. rw (x, y, t) (sym (agreement_odd (bench_from h e o p q) v t)))

module _ (r : Bool) (v : ℕ) (e : r ≡ is_even v) where
  pub place_even : r ≡ true → 0 ≡ logs_place v
  place_even t = rw (← e, t)

  pub place_odd : r ≡ false → span ≡ logs_place v
  place_odd t = rw (← e, t)

-- ---- what is forgotten

module _ (r : Bool) (beat : ℕ) where
  pub forgets : (m k : Marks) (lengths ls : List ℕ) → r ≡ logs_shut m.view beat → r ≡ true → ls ≡ replicate most_senders 0
      → k ≡ empty_marks 0
      → agreement_from k ls ≡ kept_agreement beat (agreement_from m lengths)
  forgets m k lengths ls e t f g = (λ i. agreement_from (g i) (f i)) ∙ sym (agreement_forgotten beat (agreement_from m lengths) (sym e ∙ t))

  pub keeps : (m : Marks) (lengths : List ℕ) → r ≡ logs_shut m.view beat → r ≡ false
      → agreement_from m lengths ≡ kept_agreement beat (agreement_from m lengths)
  keeps m lengths e t = sym (agreement_kept beat (agreement_from m lengths) (sym e ∙ t))

  pub forgets_proposals : (m k : Shown) (lengths priorities ls ps : List ℕ) → r ≡ proposals_shut m.view beat → r ≡ true
      → ls ≡ replicate most_senders 0
      → ps ≡ replicate most_senders 0 → k ≡ empty_shown 0 → proposals_from k ls ps ≡ kept_proposals beat (proposals_from m lengths priorities)
  forgets_proposals m k lengths priorities ls ps e t f g h =
      (λ i. proposals_from (h i) (f i) (g i)) ∙ sym (proposals_forgotten beat (proposals_from m lengths priorities) (sym e ∙ t))

  pub keeps_proposals : (m : Shown) (lengths priorities : List ℕ) → r ≡ proposals_shut m.view beat → r ≡ false
      → proposals_from m lengths priorities ≡ kept_proposals beat (proposals_from m lengths priorities)
  keeps_proposals m lengths priorities e t = sym (proposals_kept beat (proposals_from m lengths priorities) (sym e ∙ t))
