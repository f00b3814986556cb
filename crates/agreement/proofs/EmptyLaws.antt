-- Where nothing is filed there is no grade, and nobody's proposal is voted for. Assumes nothing.
use Prim.Native.Nat.{ℕ, zero, suc, ◌<◌}
use mathlib.Core.Bool.{Bool, false, ◌||◌, false≢true}
use mathlib.Core.List.{List, []}
use mathlib.Core.Option.{none}
use mathlib.Core.Path.{◌≡◌, refl, sym, ◌∙◌}
use native.Mathlib.Omega.{arith}
use borrow.Author.Tests.{ltb-false}
use lib.ListN.{replicate}
use Rattle.message.specs.Logs.{Log}
use Rattle.message.proofs.TestLaws.{either}
use Rattle.agreement.specs.Limits.{most_senders}
use Rattle.agreement.specs.Sets.{ones, count}
use Rattle.agreement.specs.Reading.{Reading, may_support, supports, Grade}
use Rattle.agreement.specs.Record.{empty_agreement, is_sender, lacks_room, overlong, reading_of}
use Rattle.agreement.specs.Grades.{grade_among, grade_of}
use Rattle.agreement.specs.Proposals.{empty_proposals, fits, choice_of}
use Rattle.agreement.specs.Tally.{supporters_of}
use Rattle.agreement.specs.Kept.{nothing, kept_log, kept_proposal}
use Rattle.agreement.proofs.MaskLaws.{member_zero}
use Rattle.agreement.proofs.LimitLaws.{some_no}
use Rattle.agreement.proofs.ReadingLaws.{may_iff, grade_supporter}
use Rattle.agreement.proofs.LongestLaws.{longest_nothing}
use Rattle.agreement.proofs.ChoiceLaws.{best_none_iff}

module _ (names counts : List ℕ) (base v : ℕ) where
  abbrev R : Reading
  R = reading_of names counts base (empty_agreement v) 0

  nobody : Grade most_senders ones R [] → ⊥
  nobody g =
      let s = grade_supporter most_senders ones R [] g in false≢true (sym (member_zero s.sender) ∙ ((may_iff R s.sender).0 s.may).0)

  pub empty_grade : (k : ℕ) → grade_of names counts base (empty_agreement v) k ≡ none
  unfolding grade_among
  empty_grade zero =
      either (lacks_room names counts base || overlong (replicate most_senders 0)) (λ t. rw t)
      (λ t. rw t (longest_nothing most_senders ones R nobody))
  empty_grade (suc zero) = refl
  empty_grade (suc (suc k)) = refl

  pub empty_choice : (a k : ℕ) → choice_of names counts base (empty_proposals v) a k ≡ none
  unfolding choice_of
  empty_choice a k =
      either (lacks_room names counts base) (λ t. rw t)
      (λ t. rw t ((best_none_iff (fits names counts base (empty_proposals v) a k) _ most_senders).1 (λ j l. rw (member_zero j))))

-- ---- nobody is heard, and nobody supports

none_count : (p : ℕ → Bool) → ((i : ℕ) → i < most_senders → p i ≡ false) → count most_senders p ≡ 0
none_count p h = let z = ltb-false 0 (count most_senders p) (some_no p h) in omega arith

pub empty_senders : (v : ℕ) → count most_senders (is_sender (empty_agreement v)) ≡ 0
empty_senders v = none_count (is_sender (empty_agreement v)) (λ i l. rw (member_zero i))

pub empty_supporters : (names counts : List ℕ) (base v among : ℕ) (L : Log) → supporters_of names counts base (empty_agreement v) among L ≡ 0
unfolding supporters_of supports may_support
empty_supporters names counts base v among L =
    either (lacks_room names counts base || overlong (replicate most_senders 0)) (λ t. rw t)
    (λ t. rw t (none_count (supports (reading_of names counts base (empty_agreement v) among) L) (λ i l. rw (member_zero i))))

-- ---- and nothing is kept

pub empty_kept : (names counts : List ℕ) (base v i : ℕ) → kept_log names counts base (empty_agreement v) i ≡ nothing
unfolding kept_log
empty_kept names counts base v i = rw (member_zero i)

pub empty_proposal_kept : (names counts : List ℕ) (base v i : ℕ) → kept_proposal names counts base (empty_proposals v) i ≡ nothing
unfolding kept_proposal
empty_proposal_kept names counts base v i = rw (member_zero i)
