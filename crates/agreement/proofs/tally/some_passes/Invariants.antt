use Rattle.agreement.specs.Steps.{Passes}
use Rattle.agreement.proofs.tally.some_passes.Given as goal

abbrev pub invariant-loop-i : goal.invariant-loop-i
invariant-loop-i g l = Passes (goal.F-post g l.test) l.i l.some
