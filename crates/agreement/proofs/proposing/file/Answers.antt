use Rattle.agreement.proofs.FilingLaws.{fit_by}
use Rattle.agreement.proofs.ProposalLaws.{proposal_unfit}
use Rattle.agreement.proofs.proposing.file.Goals as goal

pub returns-then-unfit : goal.returns-then-unfit
returns-then-unfit c = search proposal_unfit

pub file_fit-requires : goal.file_fit-requires
file_fit-requires c =
    fit_by _ _ _ _ _ _ c.unfit.ensures c.if-unfit.false
