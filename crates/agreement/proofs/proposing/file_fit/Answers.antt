use Rattle.agreement.proofs.FilingLaws.{some_bytes}
use Rattle.agreement.proofs.ProposalLaws.{proposal_aside, proposal_same, proposal_other, proposal_new}
use Rattle.agreement.proofs.proposing.file_fit.Goals.{then-has, else-has+then-not-has, else-has+else-not-has+then-is_same, else-has+else-not-has+else-is_same}
use Rattle.agreement.proofs.proposing.file_fit.Goals as goal

pub bounds-bytes-0 : goal.bounds-bytes-0
bounds-bytes-0 c = search some_bytes

pub returns : goal.returns
returns c =
    elim c.if-has.branch [
      | then-has w ↦ rw (w.answer-is, w.lengths-is, w.priorities-is, w.names-is, w.counts-is) (search proposal_aside)
      | else-has+then-not-has w ↦ rw (w.answer-is, w.lengths-is, w.priorities-is, w.names-is, w.counts-is) (search proposal_new)
      | else-has+else-not-has+then-is_same w ↦ rw (w.answer-is, w.lengths-is, w.priorities-is, w.names-is, w.counts-is) (search proposal_same)
      | else-has+else-not-has+else-is_same w ↦ rw (w.answer-is, w.lengths-is, w.priorities-is, w.names-is, w.counts-is) (search proposal_other)
    ]
