use Rattle.calls.proofs.TotalWalks.{Seeking}
use Rattle.message.specs.Numbers.{part}
use Rattle.calls.specs.TotalSteps.{entry_among}
use Rattle.calls.proofs.totals.find_in.Given as goal

abbrev pub invariant-loop-i : goal.invariant-loop-i
invariant-loop-i l = Seeking (entry_among 0 0 (part l.totals 0 l.decided) l.entry) l.totals l.decided l.entry l.before l.i
