use Rattle.calls.proofs.TotalWalks.{Summing}
use Rattle.bench.specs.Totals.{totals_from, unlike}
use Rattle.calls.specs.TotalSteps.{decided_counts}
use Rattle.calls.proofs.totals.are_unlike.Given as goal

abbrev pub invariant-loop-i : goal.invariant-loop-i
invariant-loop-i l = Summing (unlike (totals_from 0 (decided_counts l.counts l.decided)) l.totals) l.counts l.totals l.decided l.sum l.i
