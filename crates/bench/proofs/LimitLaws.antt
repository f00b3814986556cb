-- Refusal 9 by its causes, and what does not matter to it. Assumes nothing.
use Prim.Native.Nat.{ℕ, ◌+◌}
use mathlib.Core.Bool.{Bool, ◌||◌}
use mathlib.Core.List.{List}
use mathlib.Core.Path.{◌≡◌, refl, ap}
use lib.Dec.{ltb}
use Rattle.message.specs.Limits.{most_blocks, last_view}
use Rattle.agreement.specs.Limits.{most_senders}
use Rattle.agreement.specs.Sets.{count}
use Rattle.agreement.specs.Record.{Agreement}
use Rattle.agreement.specs.Proposals.{Proposals, proposals_from}
use Rattle.agreement.proofs.SetLaws.{weigh_cong}
use Rattle.agreement.proofs.LimitLaws.{some_or}
use Rattle.bench.specs.Layout.{out_of_range}
use Rattle.bench.specs.Calendar.{last_beat}
use Rattle.bench.specs.Record.{Bench, with_proposals, any_place, bad_sender, beyond_agreement, bad_proposer, beyond_proposals, beyond}

-- ---- a test of all 32 places

pub any_place_lem : (p : ℕ → Bool) → any_place p ≡ ltb 0 (count most_senders p)
unfolding any_place
any_place_lem p = refl

pub any_or : (p q : ℕ → Bool) → any_place (λ (i : ℕ). p i || q i) ≡ (any_place p || any_place q)
unfolding any_place
any_or p q = some_or p q

pub any_cong : (p q : ℕ → Bool) → ((i : ℕ) → p i ≡ q i) → any_place p ≡ any_place q
unfolding any_place
any_cong p q h = ap (ltb 0) (weigh_cong most_senders _ _ _ (λ i l. h i))

-- ---- the causes

pub agreement_causes : (n : ℕ) (g : Agreement) → beyond_agreement n g ≡ (ltb last_view g.marks.view || any_place (bad_sender n g))
unfolding beyond_agreement
agreement_causes n g = refl

pub proposals_causes : (n : ℕ) (g : Proposals) → beyond_proposals n g ≡ (ltb last_view g.marks.view || any_place (bad_proposer n g))
unfolding beyond_proposals
proposals_causes n g = refl

pub beyond-causes : (b : Bench) → beyond b
    ≡ (out_of_range b.n b.own
    || (ltb (last_beat + 1) b.next
    || (ltb most_blocks b.decided
    || (beyond_agreement b.n b.even
    || (beyond_agreement b.n b.odd
    || beyond_proposals b.n b.proposals)))))
unfolding beyond
beyond-causes b = refl

-- the priorities are none
pub beyond_priorities : (b : Bench) (priorities : List ℕ)
    → beyond b ≡ beyond (with_proposals b (proposals_from b.proposals.marks b.proposals.lengths priorities))
unfolding beyond beyond_proposals
beyond_priorities b priorities = refl
