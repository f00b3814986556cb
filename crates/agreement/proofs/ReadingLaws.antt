-- Laws of grades over any senders and weights: the tests tied to what they mean, and the properties of grades. Assumes nothing.
use Prim.Native.Nat.{ℕ, ◌+◌, ◌*◌, ◌≤◌, ◌<◌}
use native.Mathlib.Decide.{dec_le}
use native.Mathlib.Omega.{arith}
use mathlib.Core.Path.{◌≡◌, refl, ap}
use mathlib.Core.Logic.Iff
use mathlib.Core.Logic.{◌⊎◌, ◌↔◌}
use mathlib.Core.Bool.{Bool, true, false, ◌&&◌, and-eq-true_iff}
use lib.Dec.{ltb}
use borrow.Author.Tests.{ltb-true, lt-ltb}
use Rattle.message.specs.Logs.{Log, Prefix, Compatible, Conflict, is_prefix}
use Rattle.message.proofs.LogLaws.{prefix_trans, compatible_under, is_prefix_iff, no_conflict_iff}
use Rattle.agreement.specs.Sets.{weigh, Inside}
use Rattle.agreement.specs.Reading.{Reading, may_support, supports, Grade, has_grade}
use Rattle.agreement.proofs.SetLaws.{Meet, weigh_mono, weigh_cover, weigh_meet, weigh_disjoint, weigh_some, weigh_cong, weigh_cut}

-- ---- the tests

pub may_iff : (R : Reading) (i : ℕ) → (may_support R i ≡ true) ↔ ((R.single i ≡ true) × (R.snap i ≡ true))
unfolding may_support
may_iff R i = and-eq-true_iff _ _

pub supports_iff : (R : Reading) (L : Log) (i : ℕ) → (supports R L i ≡ true) ↔ ((may_support R i ≡ true) × Prefix L (R.log i))
unfolding supports
supports_iff R L i = Iff.trans (and-eq-true_iff _ _) (Iff.and Iff.rfl (is_prefix_iff L _))

pub grade_iff : (n : ℕ) (w : ℕ → ℕ) (R : Reading) (L : Log) → (has_grade n w R L ≡ true) ↔ Grade n w R L
unfolding has_grade Grade
grade_iff n w R L =
    (ltb-true (weigh n w R.heard) (2 * weigh n w (supports R L)), lt-ltb (weigh n w R.heard) (2 * weigh n w (supports R L)))

-- ---- which logs have the grade

-- with a log, each of its prefixes has the grade
pub grade_prefix : (n : ℕ) (w : ℕ → ℕ) (R : Reading) {K L : Log} → Prefix K L → Grade n w R L → Grade n w R K
unfolding Grade
grade_prefix n w R {K} {L} h g =
    omega (
      arith,
      weigh_mono n w (supports R L) (supports R K)
          (λ i l e. let a = (supports_iff R L i).0 e in (supports_iff R K i).1 (a.0, prefix_trans h a.1)),
    )

-- a sender below n that supports L
pub record Supporter (n : ℕ) (R : Reading) (L : Log) : Type 0 where
  pub sender : ℕ
  pub below : sender < n
  pub may : may_support R sender ≡ true
  pub extends : Prefix L (R.log sender)

-- a log with the grade has a supporter
pub grade_supporter : (n : ℕ) (w : ℕ → ℕ) (R : Reading) (L : Log) → Grade n w R L → Supporter n R L
unfolding Grade
grade_supporter n w R L g =
    let m = weigh_some n w (supports R L) (omega arith) in
    let a = (supports_iff R L m.sender).0 m.left in
    record { sender = m.sender; below = m.below; may = a.0; extends = a.1 }

-- ---- readings alike below n: the same sets, and the same logs of the senders in V

pub record Alike (n : ℕ) (R T : Reading) : Type 0 where
  pub heard : (i : ℕ) → i < n → R.heard i ≡ T.heard i
  pub single : (i : ℕ) → i < n → R.single i ≡ T.single i
  pub snap : (i : ℕ) → i < n → R.snap i ≡ T.snap i
  pub log : (i : ℕ) → i < n → R.single i ≡ true → R.log i ≡ T.log i

may_cong : {n : ℕ} {R T : Reading} → Alike n R T → (i : ℕ) → i < n → may_support R i ≡ may_support T i
unfolding may_support
may_cong a i l = let p = a.single i l in let q = a.snap i l in λ j. p j && q j

-- the second part of a test counts only where the first holds
and_cong : (a b c d : Bool) → a ≡ b → (a ≡ true → c ≡ d) → (a && c) ≡ (b && d)
and_cong true b c d p h = let q = h refl in λ i. p i && q i
and_cong false b c d p h = rw (← p)

supports_cong : {n : ℕ} {R T : Reading} → Alike n R T → (L : Log) (i : ℕ) → i < n → supports R L i ≡ supports T L i
unfolding supports
supports_cong {R = R} {T = T} a L i l =
    and_cong (may_support R i) (may_support T i) (is_prefix L (R.log i)) (is_prefix L (T.log i)) (may_cong a i l)
    (λ e. ap (is_prefix L) (a.log i l ((may_iff R i).0 e).0))

-- they give the same grades
pub has_grade_cong : (n : ℕ) (w : ℕ → ℕ) {R T : Reading} → Alike n R T → (L : Log) → has_grade n w R L ≡ has_grade n w T L
unfolding has_grade
has_grade_cong n w {R} {T} a L =
    let p = weigh_cong n w R.heard T.heard a.heard in
    let q = weigh_cong n w (supports R L) (supports T L) (supports_cong a L) in
    λ i. ltb (p i) (2 * q i)

-- ---- senders from n on add nothing where none of them is heard or in V

pub record Beyond (n d : ℕ) (R : Reading) : Type 0 where
  pub heard : (i : ℕ) → n ≤ i → i < n + d → R.heard i ≡ false
  pub single : (i : ℕ) → n ≤ i → i < n + d → R.single i ≡ false

supports-beyond : (n d : ℕ) (R : Reading) → Beyond n d R → (L : Log) (i : ℕ) → n ≤ i → i < n + d → supports R L i ≡ false
unfolding supports may_support
supports-beyond n d R b L i h l = rw (b.single i h l)

pub has_grade_cut : (n d : ℕ) (w : ℕ → ℕ) (R : Reading) → Beyond n d R → (L : Log) → has_grade (n + d) w R L ≡ has_grade n w R L
unfolding has_grade
has_grade_cut n d w R b L =
    let p = weigh_cut n d w R.heard b.heard in
    let q = weigh_cut n d w (supports R L) (supports-beyond n d R b L) in
    λ i. ltb (p i) (2 * q i)

-- ---- the properties of grades: the paper's five

module _ (n : ℕ) (w : ℕ → ℕ) where
  -- Validity: if every member may support and its log extends L, and breakers, lighter together than the members, are all that is heard
  -- besides, then L has the grade.
  pub validity : (R : Reading) (member breaker : ℕ → Bool) (L : Log) → Inside n member (may_support R)
      → ((i : ℕ) → i < n → member i ≡ true → Prefix L (R.log i))
      → ((i : ℕ) → i < n → R.heard i ≡ true → (member i ≡ true) ⊎ (breaker i ≡ true))
      → weigh n w breaker < weigh n w member → Grade n w R L
  unfolding Grade
  validity R member breaker L inside extends cover major =
      omega (arith, weigh_cover n w member breaker R.heard cover, weigh_mono n w member (supports R L) supporters)
    where
      supporters : Inside n member (supports R L)
      supporters i l e = (supports_iff R L i).1 (inside i l e, extends i l e)

  -- Graded delivery: a log with the grade in R has it in T, if all who may support in R may in T, with the same logs, and T has heard
  -- no sender that R has not.
  pub graded_delivery : (R T : Reading) (L : Log) → Inside n (may_support R) (may_support T)
      → ((i : ℕ) → i < n → may_support R i ≡ true → R.log i ≡ T.log i) → Inside n T.heard R.heard
      → Grade n w R L → Grade n w T L
  unfolding Grade
  graded_delivery R T L inside same less g =
      omega (arith, weigh_mono n w T.heard R.heard less, weigh_mono n w (supports R L) (supports T L) keeps)
    where
      keeps : Inside n (supports R L) (supports T L)
      keeps i l e = let a = (supports_iff R L i).0 e in (supports_iff T L i).1 (inside i l a.0, rw (same i l a.0) at a.1)

  -- Consistency: logs with a grade in two readings do not conflict, if all who may support in either are heard in both, and who may
  -- support in both has the same log there.
  pub consistency : (R T : Reading) (L M : Log)
      → Inside n (may_support R) R.heard → Inside n (may_support R) T.heard
      → Inside n (may_support T) R.heard → Inside n (may_support T) T.heard
      → ((i : ℕ) → i < n → may_support R i ≡ true → may_support T i ≡ true → R.log i ≡ T.log i)
      → Grade n w R L → Grade n w T M → Compatible L M
  unfolding Grade
  consistency R T L M rr rt tr tt same g h = elim (dec_le (weigh n w R.heard) (weigh n w T.heard)) [
    | yes l ↦ common (weigh_meet n w _ _ R.heard (left rr) (right tr) (omega arith))
    | no l ↦ common (weigh_meet n w _ _ T.heard (left rt) (right tt) (omega arith))
  ]
    where
      left : {r : ℕ → Bool} → Inside n (may_support R) r → Inside n (supports R L) r
      left f i l e = f i l ((supports_iff R L i).0 e).0

      right : {r : ℕ → Bool} → Inside n (may_support T) r → Inside n (supports T M) r
      right f i l e = f i l ((supports_iff T M i).0 e).0

      common : Meet n (supports R L) (supports T M) → Compatible L M
      common m =
          let a = (supports_iff R L m.sender).0 m.left in
          let b = (supports_iff T M m.sender).0 m.right in
          compatible_under (rw (same m.sender m.below a.0 b.0) at a.1) b.1

  -- Integrity: if every member is heard and none supports L, and breakers, lighter together than the members, are all that is heard
  -- besides, then L lacks the grade.
  pub integrity : (R : Reading) (member breaker : ℕ → Bool) (L : Log) → Inside n (may_support R) R.heard → Inside n member R.heard
      → ((i : ℕ) → i < n → member i ≡ true → supports R L i ≡ true → ⊥)
      → ((i : ℕ) → i < n → R.heard i ≡ true → (member i ≡ true) ⊎ (breaker i ≡ true))
      → weigh n w breaker < weigh n w member → Grade n w R L → ⊥
  unfolding Grade
  integrity R member breaker L may heard none cover major g =
      omega (
        arith,
        weigh_disjoint n w (supports R L) member R.heard inside heard (λ i l a b. none i l b a),
        weigh_cover n w member breaker R.heard cover,
      )
    where
      inside : Inside n (supports R L) R.heard
      inside i l e = may i l ((supports_iff R L i).0 e).0

  -- Uniqueness: two logs with the grade in one reading do not conflict, if all who may support are heard.
  pub uniqueness : (R : Reading) (L M : Log) → Inside n (may_support R) R.heard → Grade n w R L → Grade n w R M → Compatible L M
  uniqueness R L M f = consistency R R L M f f f f (λ i l a b. refl)

  -- the same with document 01's word
  pub no_conflict : (R : Reading) (L M : Log) → Inside n (may_support R) R.heard → Grade n w R L → Grade n w R M → Conflict L M → ⊥
  no_conflict R L M f g h = (no_conflict_iff L M).1 (uniqueness R L M f g h)
