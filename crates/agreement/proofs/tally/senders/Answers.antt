use Rattle.agreement.proofs.MaskLaws.{size_of}
use borrow.Author.Rules.{rules}
use Rattle.agreement.proofs.tally.senders.Goals as goal

pub returns : goal.returns
returns c = (search size_of, search rules)
