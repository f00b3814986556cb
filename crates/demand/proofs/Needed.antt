-- No premise of demand 3 is idle: without any one of them there is a volume that meets the other two and in which two decided logs
-- conflict. Assumes nothing.
use Prim.Native.Nat.{ℕ, ◌≤◌}
use native.Mathlib.Omega.{arith}
use mathlib.Core.Path.{◌≡◌, refl, ap}
use mathlib.Core.List.{List, [], ◌∷◌, Memᴰ as Mem, head-eq_of_cons-eq}
use mathlib.Core.Bool.{true}
use lib.Dec.{ltb}
use lib.ListN.{get_or}
use Rattle.message.specs.Logs.{Block, Log, Conflict}
use Rattle.message.proofs.LogLaws.{prefix_iff, no_conflict_iff}
use Rattle.agreement.specs.Limits.{most_senders}
use Rattle.bench.specs.Calls.{Call, begin, AllTyped}
use Rattle.bench.specs.History.{after}
use Rattle.demand.specs.Places.{Decides}
use Rattle.demand.specs.Premises.{Volume, seat, Keeps, Delivery, Numbers, Majority}
use Rattle.demand.proofs.Checks.{delivered, numbered, majority}
use Rattle.demand.proofs.TypedChecks.{volume_typedb, volume_typed}
use Rattle.demand.proofs.Computed.{computed}
use Rattle.demand.proofs.FourBeats.{no_conflict}
use Rattle.demand.proofs.Decided.{decided_in, mem_decides}
use Rattle.demand.proofs.Witness.{five, seven, offers, acts, log}

-- Two rule-keepers, or one, decided two logs that conflict, in calls that there can be.
pub record Parts (W : Volume) : Type 0 where
  pub range : W.terms.n ≤ most_senders
  pub typed : (i : ℕ) → Keeps W i → AllTyped (W.calls i)
  pub one : ℕ
  pub other : ℕ
  one_keeps : Keeps W one
  other_keeps : Keeps W other
  log_one : Log
  log_other : Log
  one_decides : Decides (seat W one) (W.calls one) log_one
  other_decides : Decides (seat W other) (W.calls other) log_other
  pub conflict : Conflict log_one log_other

-- so that by the theorem not all three premises hold
pub parts_fails : (W : Volume) → Parts W → Delivery W → Numbers W → Majority W → ⊥
parts_fails W x D N J =
    (no_conflict_iff x.log_one x.log_other).1
    (no_conflict W D N J x.one x.other x.one_keeps x.other_keeps x.log_one x.log_other x.one_decides
    x.other_decides) x.conflict

parts : (W : Volume) (i j : ℕ) → W.terms.n ≤ most_senders → volume_typedb W ≡ true → Keeps W i → Keeps W j
    → Mem five (decided_in (after (seat W i) (W.calls i)).actions) → Mem seven (decided_in (after (seat W j) (W.calls j)).actions)
    → Parts W
parts W i j r t ki kj d e = record {
  range = r;
  typed = volume_typed W t;
  one = i;
  other = j;
  one_keeps = ki;
  other_keeps = kj;
  log_one = five;
  log_other = seven;
  one_decides = mem_decides (seat W i) (W.calls i) five d;
  other_decides = mem_decides (seat W j) (W.calls j) seven e;
  conflict = (
    λ h. let e : ◌≡◌ {A = ℕ} 5 7 = ap (λ (b : Block). b.name) (head-eq_of_cons-eq ((prefix_iff five seven).0 h).1) in omega arith,
    λ h. let e : ◌≡◌ {A = ℕ} 7 5 = ap (λ (b : Block). b.name) (head-eq_of_cons-eq ((prefix_iff seven five).0 h).1) in omega arith,
  );
}

-- ---- without the majority: benches 0 and 1 and a rule-breaker 2. Bench 0 is awake alone in view 0 and decides [5]; when bench 1 wakes,
-- that view's
-- window has passed, and it hears 2 only, who sends [7] in view 2.

early : List Call
unfolding offers acts
early = begin 0 ∷ offers 5 3 ∷ begin 1 ∷ acts ∷ begin 2 ∷ acts ∷ begin 6 ∷ acts ∷ []

late : List Call
unfolding acts log
late = begin 10 ∷ log 2 2 seven ∷ acts ∷ begin 14 ∷ acts ∷ []

abbrev turns : Volume
turns = record { terms = record { n = 3 }; keeper = λ i. ltb i 2; calls = λ i. get_or (early ∷ late ∷ []) i [] }

pub majority_needed : (W : Volume) × Delivery W × Numbers W × Parts W
unfolding computed early late
majority_needed = (
  turns,
  delivered turns refl,
  numbered turns refl,
  parts turns 0 1 (omega arith) refl (omega arith, refl) (omega arith, refl) (Mem.head refl) (Mem.head refl),
)

-- ---- without delivery: two benches, both awake, that hear nothing of each other. Each proposes a block, votes for it and decides it.

unheard : ℕ → ℕ → List Call
unfolding offers acts
unheard name entries =
    begin 0 ∷ offers name entries ∷ begin 1 ∷ acts ∷ begin 2 ∷ acts ∷ begin 3 ∷ acts ∷ begin 5 ∷ acts ∷ begin 6 ∷ acts ∷ []

abbrev apart : Volume
apart = record { terms = record { n = 2 }; keeper = λ i. ltb i 2; calls = λ i. get_or (unheard 5 3 ∷ unheard 7 1 ∷ []) i [] }

pub delivery_needed : (W : Volume) × Numbers W × Majority W × Parts W
unfolding computed unheard
delivery_needed = (
  apart,
  numbered apart refl,
  majority apart 2 refl,
  parts apart 0 1 (omega arith) refl (omega arith, refl) (omega arith, refl) (Mem.head refl) (Mem.head refl),
)

-- ---- without numbers: three rule-keepers, of which 0 alone ever wakes. It decides [5]; at beat 6 it takes LOGs of view 1 that bear the
-- numbers 1 and
-- 2, who made none, and at beat 10 it decides their log.

deceived : List Call
unfolding offers acts log
deceived =
    begin 0 ∷ offers 5 3 ∷ begin 1 ∷ acts ∷ begin 2 ∷ acts ∷ begin 3 ∷ acts ∷ begin 5 ∷ acts
    ∷ begin 6 ∷ log 1 1 seven ∷ log 1 2 seven ∷ acts ∷ begin 7 ∷ acts ∷ begin 9 ∷ acts ∷ begin 10 ∷ acts ∷ []

abbrev forged : Volume
forged = record { terms = record { n = 3 }; keeper = λ i. ltb i 3; calls = λ i. get_or (deceived ∷ []) i [] }

pub numbers_needed : (W : Volume) × Delivery W × Majority W × Parts W
unfolding computed deceived
numbers_needed = (
  forged,
  delivered forged refl,
  majority forged 3 refl,
  parts forged 0 0 (omega arith) refl (omega arith, refl) (omega arith, refl) (Mem.tail (Mem.head refl)) (Mem.head refl),
)
