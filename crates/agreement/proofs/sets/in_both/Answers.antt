use Rattle.agreement.proofs.MaskLaws.{both_set}
use borrow.Author.Rules.{rules}
use Rattle.agreement.proofs.sets.in_both.Goals as goal

pub returns : goal.returns
returns c = both_set _ _ (search rules) (search rules)
