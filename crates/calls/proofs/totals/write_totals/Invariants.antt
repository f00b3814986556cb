use lib.ListN.{length}
use Rattle.calls.proofs.TotalWalks.{Writing}
use Rattle.message.specs.Numbers.{put}
use Rattle.bench.specs.Totals.{totals_from}
use Rattle.calls.proofs.totals.write_totals.Given as goal

abbrev pub invariant-loop-i : goal.invariant-loop-i
invariant-loop-i l =
    Writing (put l.initial.totals 0 (totals_from l.before l.counts)) l.counts l.totals l.before l.sum l.i (length l.initial.totals)
