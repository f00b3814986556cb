use Rattle.agreement.proofs.ChoiceLaws.{Choosing}
use Rattle.agreement.proofs.proposing.choose.Given as goal

abbrev pub invariant-loop-i : goal.invariant-loop-i
invariant-loop-i l =
    Choosing l.lengths l.priorities l.names l.counts l.base l.a l.k l.shown l.i-iterator.left l.best
