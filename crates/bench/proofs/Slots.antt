-- Which agreement is whose: what a record has of view v, and what each change of the record, and a Begin, leave of it. Assumes nothing.
use Prim.Native.Nat.{ℕ, ◌+◌, ◌%◌, ◌≤◌, ◌<◌}
use native.Mathlib.Decide.{dec_le}
use native.Mathlib.Omega.{arith}
use mathlib.Core.Bool.{Bool, true, false}
use mathlib.Core.Logic.{◌⊎◌, inl, inr}
use mathlib.Core.Path.{◌≡◌, refl, sym, ap, ◌∙◌}
use borrow.Author.Tests.{eqb-true, eqb-false, eq-eqb, ne_eqb, ltb-true, ltb-false}
use lib.Dec.{eqb}
use Rattle.message.specs.Limits.{last_view}
use Rattle.message.specs.Choice.{pick}
use Rattle.message.proofs.TestLaws.{either}
use Rattle.agreement.specs.Record.{empty_agreement, Agreement}
use Rattle.agreement.specs.Proposals.{empty_proposals, Proposals}
use Rattle.bench.specs.Layout.{is_even}
use Rattle.bench.specs.Calendar.{input_beat, close_beat, logs_shut, proposals_shut}
use Rattle.bench.specs.Record.{of_view, slot_of, agreement_of, proposed_in, proposals_of, with_agreement, with_proposals, Bench}
use Rattle.bench.specs.ByRecord.{kept_agreement, kept_proposals, begun_bench}
use Rattle.bench.proofs.Valid.{ValidAgreement, ValidProposals, Valid}
use Rattle.bench.proofs.ValidAgreements.{empty_valid}
use Rattle.bench.proofs.ValidProposals.{empty_proposals_valid}

-- ---- what a slot holds of view v

own_view : (g : Agreement) (v : ℕ) → g.marks.view ≡ v → of_view g v ≡ g
own_view g v e = rw (eq-eqb g.marks.view v e)

other_view : (g : Agreement) (v : ℕ) → (g.marks.view ≡ v → ⊥) → of_view g v ≡ empty_agreement v
other_view g v e = rw (ne_eqb g.marks.view v e)

-- with nothing filed it does not matter which view the slot says
pub empty_of_view : (u v : ℕ) → of_view (empty_agreement u) v ≡ empty_agreement v
empty_of_view u v =
    either (eqb u v) (λ t. rw t (ap empty_agreement (eqb-true u v t))) (λ t. rw t)

of_view_view : (g : Agreement) (v : ℕ) → (of_view g v).marks.view ≡ v
of_view_view g v = either (eqb g.marks.view v) (λ t. rw t (eqb-true g.marks.view v t)) (λ t. rw t)

of_view_valid : (n : ℕ) (g : Agreement) (v : ℕ) → v ≤ last_view → ValidAgreement n g → ValidAgreement n (of_view g v)
of_view_valid n g v h f = either (eqb g.marks.view v) (λ t. rw t f) (λ t. rw t (empty_valid n v h))

-- the same of proposals
own_proposals : (g : Proposals) (v : ℕ) → g.marks.view ≡ v → proposed_in g v ≡ g
own_proposals g v e = rw (eq-eqb g.marks.view v e)

other_proposals : (g : Proposals) (v : ℕ) → (g.marks.view ≡ v → ⊥) → proposed_in g v ≡ empty_proposals v
other_proposals g v e = rw (ne_eqb g.marks.view v e)

empty_proposals_in : (u v : ℕ) → proposed_in (empty_proposals u) v ≡ empty_proposals v
empty_proposals_in u v = either (eqb u v) (λ t. rw t (ap empty_proposals (eqb-true u v t))) (λ t. rw t)

-- ---- the slot of view v: these laws alone go by parity

-- what two agreements meet, the one picked meets; so what both slots meet, the slot of view v meets
pub picked : (P : Agreement → Type 0) (t : Bool) (g h : Agreement) → P g → P h → P (pick t g h)
picked P true g h x y = x
picked P false g h x y = y

pub in_slot : (P : Agreement → Type 0) (b : Bench) (v : ℕ) → P b.even → P b.odd → P (slot_of b v)
in_slot P b v = picked P (is_even v) b.even b.odd

-- what is stored is read back
slot_own : (b : Bench) (v : ℕ) (g : Agreement) → slot_of (with_agreement b v g) v ≡ g
unfolding with_agreement
slot_own b v g = go (is_even v)
  where
    go : (t : Bool) → pick t (pick t g b.even) (pick t b.odd g) ≡ g
    go true = refl
    go false = refl

-- the other slot is untouched
slot_other : (b : Bench) (v : ℕ) (g : Agreement) (u : ℕ) → (is_even u ≡ is_even v → ⊥) → slot_of (with_agreement b v g) u ≡ slot_of b u
unfolding with_agreement
slot_other b v g u h =
    either (is_even v)
    (λ t. either (is_even u) (λ q. absurd (h (q ∙ sym t))) (λ q. rw (t, q)))
    (λ t. either (is_even u) (λ q. rw (t, q)) (λ q. absurd (h (q ∙ sym t))))

-- ---- what a record has of view v

module _ (b : Bench) (v : ℕ) where
  pub agreement_view : (agreement_of b v).marks.view ≡ v
  unfolding agreement_of
  agreement_view = of_view_view (slot_of b v) v

  pub proposals_view : (proposals_of b v).marks.view ≡ v
  unfolding proposals_of
  proposals_view = either (eqb b.proposals.marks.view v) (λ t. rw t (eqb-true b.proposals.marks.view v t)) (λ t. rw t)

  pub agreement_valid : v ≤ last_view → Valid b → ValidAgreement b.n (agreement_of b v)
  unfolding agreement_of
  agreement_valid h f = of_view_valid b.n (slot_of b v) v h (in_slot (ValidAgreement b.n) b v f.even f.odd)

  pub proposals_valid : v ≤ last_view → Valid b → ValidProposals b.n (proposals_of b v)
  unfolding proposals_of
  proposals_valid h f = either (eqb b.proposals.marks.view v) (λ t. rw t f.proposals) (λ t. rw t (empty_proposals_valid b.n v h))

  -- by the slot: of view v's parity, and the one of proposals
  pub agreement_even : is_even v ≡ true → agreement_of b v ≡ of_view b.even v
  unfolding agreement_of
  agreement_even t = rw t

  pub agreement_odd : is_even v ≡ false → agreement_of b v ≡ of_view b.odd v
  unfolding agreement_of
  agreement_odd t = rw t

  pub proposals_slot : proposals_of b v ≡ proposed_in b.proposals v
  unfolding proposals_of
  proposals_slot = refl

-- nothing else of the record matters to it
pub same_agreement : (b c : Bench) (v : ℕ) → c.even ≡ b.even → c.odd ≡ b.odd → agreement_of c v ≡ agreement_of b v
unfolding agreement_of
same_agreement b c v e o = rw (e, o)

same_proposals : (b c : Bench) (v : ℕ) → c.proposals ≡ b.proposals → proposals_of c v ≡ proposals_of b v
unfolding proposals_of
same_proposals b c v e = rw e

-- ---- after a change of view v's agreement

-- the record with these agreements
abbrev pub with_slots : Bench → Agreement → Agreement → Bench
with_slots b even odd = record {
  n = b.n;
  own = b.own;
  next = b.next;
  gathering = b.gathering;
  even = even;
  odd = odd;
  proposals = b.proposals;
  decided = b.decided;
  parted = b.parted;
}

-- all but the agreements is the same
pub record SameBesides (b c : Bench) : Type 0 where
  pub n : c.n ≡ b.n
  pub own : c.own ≡ b.own
  pub next : c.next ≡ b.next
  pub gathering : c.gathering ≡ b.gathering
  pub proposals : c.proposals ≡ b.proposals
  pub decided : c.decided ≡ b.decided
  pub parted : c.parted ≡ b.parted

module _ (b : Bench) (v : ℕ) (g : Agreement) where
  -- it is stored in the slot of v's parity
  pub stored_even : is_even v ≡ true → with_agreement b v g ≡ with_slots b g b.odd
  unfolding with_agreement
  stored_even t = rw t

  pub stored_odd : is_even v ≡ false → with_agreement b v g ≡ with_slots b b.even g
  unfolding with_agreement
  stored_odd t = rw t

  -- nothing else of the record changes
  pub agreement_rest : SameBesides b (with_agreement b v g)
  unfolding with_agreement
  agreement_rest = record { n = refl; own = refl; next = refl; gathering = refl; proposals = refl; decided = refl; parted = refl }

  module _ (e : g.marks.view ≡ v) where
    -- it is the one stored
    pub changed_own : agreement_of (with_agreement b v g) v ≡ g
    unfolding agreement_of
    changed_own = ap (λ (a : Agreement). of_view a v) (slot_own b v g) ∙ own_view g v e

    -- of another view of the same parity nothing is left
    pub changed_beside : (u : ℕ) → (u ≡ v → ⊥) → is_even u ≡ is_even v → agreement_of (with_agreement b v g) u ≡ empty_agreement u
    unfolding agreement_of
    changed_beside u h q =
        ap (λ (t : Bool). of_view (pick t (with_agreement b v g).even (with_agreement b v g).odd) u) q
        ∙ ap (λ (a : Agreement). of_view a u) (slot_own b v g)
        ∙ other_view g u (λ z. h (sym z ∙ e))

  -- a view of the other parity is untouched
  pub changed_across : (u : ℕ) → (is_even u ≡ is_even v → ⊥) → agreement_of (with_agreement b v g) u ≡ agreement_of b u
  unfolding agreement_of
  changed_across u h = ap (λ (a : Agreement). of_view a u) (slot_other b v g u h)

  pub changed_proposals : (u : ℕ) → proposals_of (with_agreement b v g) u ≡ proposals_of b u
  changed_proposals u = same_proposals b (with_agreement b v g) u agreement_rest.proposals

-- two views of one parity are two apart
pub parity_apart : (u v : ℕ) → is_even u ≡ is_even v → (u ≡ v → ⊥) → (u + 2 ≤ v) ⊎ (v + 2 ≤ u)
parity_apart u v q h =
    elim (dec_le u v) [
      | yes l ↦ inl (go u v q h l)
      | no l ↦ inr (go v u (sym q) (λ z. h (sym z)) (omega arith))
    ]
  where
    odd : (x : ℕ) → (x % 2 ≡ 0 → ⊥) → x % 2 ≡ 1
    odd x z = omega arith

    go : (x y : ℕ) → is_even x ≡ is_even y → (x ≡ y → ⊥) → x ≤ y → x + 2 ≤ y
    go x y e d l =
        either (is_even y)
        (λ t. let a = eqb-true (x % 2) 0 (e ∙ t) in let c = eqb-true (y % 2) 0 t in omega arith)
        (λ t. let a = odd x (eqb-false (x % 2) 0 (e ∙ t)) in let c = odd y (eqb-false (y % 2) 0 t) in omega arith)

-- ---- after a change of the proposals

module _ (b : Bench) (v : ℕ) (g : Proposals) where
  pub proposals_own : g.marks.view ≡ v → proposals_of (with_proposals b g) v ≡ g
  unfolding proposals_of
  proposals_own e = own_proposals g v e

  pub proposals_beside : (u : ℕ) → g.marks.view ≡ v → (u ≡ v → ⊥) → proposals_of (with_proposals b g) u ≡ empty_proposals u
  unfolding proposals_of
  proposals_beside u e h = other_proposals g u (λ z. h (sym z ∙ e))

-- ---- what a Begin leaves

-- what its window has passed for is forgotten, and all else kept
module _ (beat : ℕ) (g : Agreement) where
  pub agreement_forgotten : logs_shut g.marks.view beat ≡ true → kept_agreement beat g ≡ empty_agreement 0
  unfolding kept_agreement
  agreement_forgotten t = rw t

  pub agreement_kept : logs_shut g.marks.view beat ≡ false → kept_agreement beat g ≡ g
  unfolding kept_agreement
  agreement_kept t = rw t

module _ (beat : ℕ) (g : Proposals) where
  pub proposals_forgotten : proposals_shut g.marks.view beat ≡ true → kept_proposals beat g ≡ empty_proposals 0
  unfolding kept_proposals
  proposals_forgotten t = rw t

  pub proposals_kept : proposals_shut g.marks.view beat ≡ false → kept_proposals beat g ≡ g
  unfolding kept_proposals
  proposals_kept t = rw t

-- an open view's is left as it was
kept_open : (beat : ℕ) (g : Agreement) (v : ℕ) → beat ≤ close_beat v → of_view (kept_agreement beat g) v ≡ of_view g v
unfolding kept_agreement
kept_open beat g v h =
    either (logs_shut g.marks.view beat)
    (λ t.
    let l = ltb-true (close_beat g.marks.view) beat t in
    rw t (empty_of_view 0 v ∙ sym (other_view g v (λ e. omega arith))))
    (λ t. rw t)

-- and of one that is no longer open nothing is
kept_shut : (beat : ℕ) (g : Agreement) (v : ℕ) → close_beat v < beat → of_view (kept_agreement beat g) v ≡ empty_agreement v
unfolding kept_agreement
kept_shut beat g v h =
    either (logs_shut g.marks.view beat)
    (λ t. rw t (empty_of_view 0 v))
    (λ t. let l = ltb-false (close_beat g.marks.view) beat t in rw t (other_view g v (λ e. omega arith)))

module _ (b : Bench) (beat v : ℕ) where
  slot_begun : slot_of (begun_bench b beat) v ≡ kept_agreement beat (slot_of b v)
  slot_begun = either (is_even v) (λ t. rw t) (λ t. rw t)

  pub begun_open : beat ≤ close_beat v → agreement_of (begun_bench b beat) v ≡ agreement_of b v
  unfolding agreement_of
  begun_open h = ap (λ (a : Agreement). of_view a v) slot_begun ∙ kept_open beat (slot_of b v) v h

  pub begun_shut : close_beat v < beat → agreement_of (begun_bench b beat) v ≡ empty_agreement v
  unfolding agreement_of
  begun_shut h = ap (λ (a : Agreement). of_view a v) slot_begun ∙ kept_shut beat (slot_of b v) v h

kept_proposals_open : (beat : ℕ) (g : Proposals) (v : ℕ) → beat ≤ input_beat v → proposed_in (kept_proposals beat g) v ≡ proposed_in g v
unfolding kept_proposals
kept_proposals_open beat g v h =
    either (proposals_shut g.marks.view beat)
    (λ t.
    let l = ltb-true (input_beat g.marks.view) beat t in
    rw t (empty_proposals_in 0 v ∙ sym (other_proposals g v (λ e. omega arith))))
    (λ t. rw t)

kept_proposals_shut : (beat : ℕ) (g : Proposals) (v : ℕ) → input_beat v < beat → proposed_in (kept_proposals beat g) v ≡ empty_proposals v
unfolding kept_proposals
kept_proposals_shut beat g v h =
    either (proposals_shut g.marks.view beat)
    (λ t. rw t (empty_proposals_in 0 v))
    (λ t. let l = ltb-false (input_beat g.marks.view) beat t in rw t (other_proposals g v (λ e. omega arith)))

module _ (b : Bench) (beat v : ℕ) where
  pub begun_proposals_open : beat ≤ input_beat v → proposals_of (begun_bench b beat) v ≡ proposals_of b v
  unfolding proposals_of
  begun_proposals_open h = kept_proposals_open beat b.proposals v h

  pub begun_proposals_shut : input_beat v < beat → proposals_of (begun_bench b beat) v ≡ empty_proposals v
  unfolding proposals_of
  begun_proposals_shut h = kept_proposals_shut beat b.proposals v h
