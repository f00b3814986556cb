-- A record stays within its limits: fresh, and after each change of it. Assumes nothing.
use Prim.Native.Nat.{ℕ, ◌≤◌}
use native.Mathlib.Omega.{arith}
use mathlib.Core.Bool.{false}
use mathlib.Core.Path.{◌≡◌}
use Rattle.message.specs.Limits.{most_blocks}
use Rattle.message.proofs.TestLaws.{either}
use Rattle.agreement.specs.Record.{Agreement}
use Rattle.agreement.specs.Proposals.{Proposals}
use Rattle.bench.specs.Layout.{is_even, out_of_range}
use Rattle.bench.specs.Calendar.{last_beat, logs_shut, proposals_shut}
use Rattle.bench.specs.Record.{fresh_bench, with_agreement, with_proposals, with_gathering_over, with_decided, with_parted, Bench}
use Rattle.bench.specs.ByRecord.{kept_agreement, kept_proposals, begun_bench}
use Rattle.bench.proofs.Valid.{ValidAgreement, ValidProposals, Valid, in_range}
use Rattle.bench.proofs.ValidAgreements.{empty_valid}
use Rattle.bench.proofs.ValidProposals.{empty_proposals_valid}
use Rattle.bench.proofs.Slots.{picked}

pub fresh_valid : (n own : ℕ) → out_of_range n own ≡ false → Valid (fresh_bench n own)
fresh_valid n own e =
    let r = in_range n own e in
    record {
      some = r.0;
      few = r.1;
      own = r.2;
      next = omega arith;
      decided = omega arith;
      even = empty_valid n 0 (omega arith);
      odd = empty_valid n 0 (omega arith);
      proposals = empty_proposals_valid n 0 (omega arith);
    }

-- what a Begin leaves of an agreement, and of the proposals
kept_valid : (n beat : ℕ) (g : Agreement) → ValidAgreement n g → ValidAgreement n (kept_agreement beat g)
unfolding kept_agreement
kept_valid n beat g f = either (logs_shut g.marks.view beat) (λ t. rw t (empty_valid n 0 (omega arith))) (λ t. rw t f)

kept_proposals_valid : (n beat : ℕ) (g : Proposals) → ValidProposals n g → ValidProposals n (kept_proposals beat g)
unfolding kept_proposals
kept_proposals_valid n beat g f =
    either (proposals_shut g.marks.view beat) (λ t. rw t (empty_proposals_valid n 0 (omega arith))) (λ t. rw t f)

module _ (b : Bench) (f : Valid b) where
  pub begun_valid : (beat : ℕ) → beat ≤ last_beat → Valid (begun_bench b beat)
  begun_valid beat h = record {
    some = f.some;
    few = f.few;
    own = f.own;
    next = omega arith;
    decided = f.decided;
    even = kept_valid b.n beat b.even f.even;
    odd = kept_valid b.n beat b.odd f.odd;
    proposals = kept_proposals_valid b.n beat b.proposals f.proposals;
  }

  pub with_agreement_valid : (v : ℕ) (g : Agreement) → ValidAgreement b.n g → Valid (with_agreement b v g)
  unfolding with_agreement
  with_agreement_valid v g h = record {
    some = f.some;
    few = f.few;
    own = f.own;
    next = f.next;
    decided = f.decided;
    even = picked (ValidAgreement b.n) (is_even v) g b.even h f.even;
    odd = picked (ValidAgreement b.n) (is_even v) b.odd g f.odd h;
    proposals = f.proposals;
  }

  pub with_proposals_valid : (g : Proposals) → ValidProposals b.n g → Valid (with_proposals b g)
  with_proposals_valid g h = record {
    some = f.some;
    few = f.few;
    own = f.own;
    next = f.next;
    decided = f.decided;
    even = f.even;
    odd = f.odd;
    proposals = h;
  }

  pub over_valid : Valid (with_gathering_over b)
  over_valid = record {
    some = f.some;
    few = f.few;
    own = f.own;
    next = f.next;
    decided = f.decided;
    even = f.even;
    odd = f.odd;
    proposals = f.proposals;
  }

  pub decided_valid : (k : ℕ) → k ≤ most_blocks → Valid (with_decided b k)
  decided_valid k h = record {
    some = f.some;
    few = f.few;
    own = f.own;
    next = f.next;
    decided = h;
    even = f.even;
    odd = f.odd;
    proposals = f.proposals;
  }

  pub parted_valid : Valid (with_parted b)
  parted_valid = record {
    some = f.some;
    few = f.few;
    own = f.own;
    next = f.next;
    decided = f.decided;
    even = f.even;
    odd = f.odd;
    proposals = f.proposals;
  }
