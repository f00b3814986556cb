use Rattle.agreement.proofs.MaskLaws.{either_set}
use borrow.Author.Rules.{rules}
use Rattle.agreement.proofs.sets.in_either.Goals as goal

pub returns : goal.returns
returns c = either_set _ _ (search rules) (search rules)
