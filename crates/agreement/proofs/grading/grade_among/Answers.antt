use Rattle.agreement.proofs.FindLaws.{among_none, among_found}
use Rattle.agreement.proofs.grading.grade_among.Goals as goal

pub returns-in_err-readable : goal.returns-in_err-readable
returns-in_err-readable c = among_none _ _ _ _ _ _ _ c.from_residual.ensures c.in_err-readable.ensures

pub returns : goal.returns
returns c = among_found _ _ _ _ _ _ _ _ _ _ c.in_ok-readable.ensures _ c.find.ensures
