use Rattle.agreement.proofs.TallyLaws.{tally_nowhere, tally_barred, tally_placed, tally_counted}
use borrow.Author.Rules.{rules}
use Rattle.agreement.proofs.tally.supporters.Goals as goal

pub returns-then-i-k : goal.returns-then-i-k
returns-then-i-k c = (search tally_nowhere, search rules)

pub returns-in_default : goal.returns-in_default
returns-in_default c = (tally_barred _ _ _ _ _ _ _ c.if-i-k.false c.in_default.ensures, search rules)

pub place_of-a-requires : goal.place_of-a-requires
place_of-a-requires c = search tally_placed

pub returns : goal.returns
returns c = (tally_counted _ _ _ _ _ _ _ c.if-i-k.false _ _ _ _ _ _ c.in-Some.ensures c.place_of-a.ensures c.count_behind.ensures.0, search rules)
