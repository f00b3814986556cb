use Rattle.agreement.proofs.MaskLaws.{first_set}
use borrow.Author.Rules.{rules}
use Rattle.agreement.proofs.sets.in_first.Goals as goal

pub returns : goal.returns
returns c = first_set _ _ (search rules) (search rules)
