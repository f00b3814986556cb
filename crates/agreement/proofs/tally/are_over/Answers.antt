use mathlib.Core.Path.{◌∙◌}
use borrow.Author.Rules.{rules}
use Rattle.agreement.proofs.LimitLaws.{passes_is, over_largest, some_of_three}
use Rattle.agreement.proofs.tally.are_over.Goals as goal

pub returns : goal.returns
returns c = passes_is _ _ _ c.some_passes.ensures (λ i b l e. search (rules, over_largest)) ∙ some_of_three _ _ _
