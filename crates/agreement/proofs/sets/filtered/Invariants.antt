use Rattle.agreement.proofs.MembersLaws.{Filtering}
use Rattle.agreement.proofs.sets.filtered.Given as goal

abbrev pub invariant-loop-i : goal.invariant-loop-i
invariant-loop-i g l = Filtering (goal.F-post g l.passes) l.set l.i-iterator.left l.kept
