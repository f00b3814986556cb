use Rattle.agreement.proofs.FindLaws.{serves_zero, serves_one, serves_two}
use Rattle.agreement.proofs.grading.serving.Goals as goal

pub returns-then-grade-eq0 : goal.returns-then-grade-eq0
returns-then-grade-eq0 c = search serves_zero

pub returns-then-grade-eq1 : goal.returns-then-grade-eq1
returns-then-grade-eq1 c = search serves_one

pub returns : goal.returns
returns c = search serves_two
