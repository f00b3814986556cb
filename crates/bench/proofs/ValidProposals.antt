-- The proposals stay within their limits: with nothing filed, after each change of them, and so after filing. Their arrays keep their 32
-- places (`sized`). Assumes nothing.
use Prim.Native.Nat.{ℕ, ◌≤◌, ◌<◌}
use native.Mathlib.Omega.{arith}
use mathlib.Core.List.{List}
use mathlib.Core.Path.{◌≡◌, ◌∙◌}
use lib.ListN.{get_or, set, length-set, length-replicate}
use lib.Seq.{get_or-set_same, get_or-set_other}
use Rattle.message.specs.Limits.{most_blocks, last_view}
use Rattle.message.specs.Message.{count_in}
use Rattle.agreement.specs.Limits.{most_senders}
use Rattle.agreement.specs.Sets.{member, adding}
use Rattle.agreement.specs.Proposals.{empty_proposals, with_proposal, with_aside, file_proposal_of, Proposals}
use Rattle.agreement.proofs.FilingLaws.{few_blocks}
use Rattle.agreement.proofs.KeptLaws.{proposal_cases}
use Rattle.bench.proofs.Valid.{ValidProposer, ValidProposals, unfiled_valid}
use Rattle.agreement.proofs.MaskLaws.{member_zero, adding_lt, adding_same, adding_other}
use Rattle.bench.proofs.ValidAgreements.{get_d_all, nobody, at_place}

pub empty_proposals_valid : (n v : ℕ) → v ≤ last_view → ValidProposals n (empty_proposals v)
empty_proposals_valid n v h = record {
  view = h;
  proposer = λ i. unfiled_valid n i _ _ _ (get_d_all most_senders i 0) (member_zero i) (member_zero i);
  sized = record {
    lengths = length-replicate {A = ℕ} most_senders 0;
    priorities = length-replicate {A = ℕ} most_senders 0;
    filed = nobody;
    aside = nobody;
  };
}

-- ---- changes of the proposals

module _ (n : ℕ) (g : Proposals) (f : ValidProposals n g) where
  module _ (i : ℕ) (room : i < most_senders) (here : i < n) where
    -- sender i's first proposal
    module _ (k priority : ℕ) (few : k ≤ most_blocks) where
      abbrev ProposalAt : ℕ → Type 0
      ProposalAt j = ValidProposer n j (get_or (set g.lengths i k) j 0) (member (adding g.marks.filed i) j)
          (member g.marks.aside j)

      proposal_here : ProposalAt i
      proposal_here =
          rw (get_or-set_same g.lengths i k 0 (omega (arith, f.sized.lengths)), adding_same g.marks.filed i)
          (record { short = few; not_filed = λ x. absurd (omega arith); not_aside = λ x. absurd (omega arith) })

      proposal_else : (j : ℕ) → (j ≡ i → ⊥) → ProposalAt j
      proposal_else j d = rw (get_or-set_other g.lengths i j k 0 d, adding_other g.marks.filed i j d) (f.proposer j)

      proposal_valid : ValidProposals n (with_proposal g i k priority)
      proposal_valid = record {
        view = f.view;
        proposer = λ j. at_place ProposalAt i j proposal_here (proposal_else j);
        sized = record {
          lengths = length-set g.lengths i k ∙ f.sized.lengths;
          priorities = length-set g.priorities i priority ∙ f.sized.priorities;
          filed = adding_lt g.marks.filed i most_senders f.sized.filed room;
          aside = f.sized.aside;
        };
      }

    -- sender i's are set aside
    abbrev AsideAt : ℕ → Type 0
    AsideAt j = ValidProposer n j (get_or g.lengths j 0) (member g.marks.filed j) (member (adding g.marks.aside i) j)

    aside_here : AsideAt i
    aside_here =
        rw (adding_same g.marks.aside i)
        (record { short = (f.proposer i).short; not_filed = λ x. absurd (omega arith); not_aside = λ x. absurd (omega arith) })

    aside_else : (j : ℕ) → (j ≡ i → ⊥) → AsideAt j
    aside_else j d = rw (adding_other g.marks.aside i j d) (f.proposer j)

    aside_valid : ValidProposals n (with_aside g i)
    aside_valid = record {
      view = f.view;
      proposer = λ j. at_place AsideAt i j aside_here (aside_else j);
      sized = record {
        lengths = f.sized.lengths;
        priorities = f.sized.priorities;
        filed = f.sized.filed;
        aside = adding_lt g.marks.aside i most_senders f.sized.aside room;
      };
    }

  -- filing a PROPOSAL from sender i, whatever the bytes
  pub file_proposal_valid : (names counts : List ℕ) (base : ℕ) (s : List ℕ) (i priority : ℕ) → i < n
      → ValidProposals n (file_proposal_of g names counts base s i priority).proposals
  file_proposal_valid names counts base s i priority here =
      proposal_cases g names counts base s i priority (ValidProposals n) f
      (λ q. aside_valid i q.few here)
      (λ q. proposal_valid i q.few here (count_in s) priority (few_blocks names counts base s i q))
