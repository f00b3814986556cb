use Rattle.agreement.proofs.LimitLaws.{reach_none, reach_is}
use borrow.Author.Rules.{rules}
use Rattle.agreement.proofs.sets.reaches.Goals as goal

pub returns-then-i-ge-MOST_SENDERS : goal.returns-then-i-ge-MOST_SENDERS
returns-then-i-ge-MOST_SENDERS c = reach_none _ _ (search rules)

pub returns : goal.returns
returns c = reach_is c.args.set c.args.n _ (search rules) (search rules) c.alone.ensures
