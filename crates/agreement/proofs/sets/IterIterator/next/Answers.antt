use borrow.Author.Rules.{rules}
use Rattle.agreement.proofs.MembersLaws.{taken_is, fewer}
use Rattle.agreement.proofs.sets.IterIterator.next.Goals as goal

taken : goal.returns-clause-steps
taken c = taken_is _ c.if-self-eq0.false (search rules)

pub returns-clause-steps : goal.returns-clause-steps
returns-clause-steps c = taken c

pub returns-clause-goes : goal.returns-clause-goes
returns-clause-goes c = let t = fewer _ _ _ (taken c).0 in record { on = λ f. (tt, tt, t); keeps = tt; rests = λ f. tt }
