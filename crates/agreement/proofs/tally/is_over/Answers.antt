use borrow.Author.Rules.{rules}
use lib.Dec.{ltb}
use lib.ListN.{get_or}
use Rattle.agreement.proofs.LimitLaws.{passes_is}
use Rattle.agreement.proofs.tally.is_over.Goals as goal

pub returns : goal.returns
returns c = passes_is _ _ (λ i. ltb c.args.l (get_or c.args.row.now i 0)) c.some_passes.ensures (λ i b l e. search rules)
