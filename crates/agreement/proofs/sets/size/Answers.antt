use Rattle.agreement.proofs.MaskLaws.{size_is}
use borrow.Author.Rules.{rules}
use Rattle.agreement.proofs.sets.size.Goals as goal

pub returns : goal.returns
returns c = size_is _ (search rules)
