use Prim.Native.Nat.{◌+◌}
use Rattle.calls.proofs.TotalWalks.{sum_on, sum_off, sum_end}
use Rattle.calls.proofs.totals.are_unlike.Goals as goal

pub loop-i-preserved : goal.loop-i-preserved
loop-i-preserved c = search (sum_on, c.type_inv.counts (6144 + c.loop-i.i))

pub returns-then-totals-i : goal.returns-then-totals-i
returns-then-totals-i c = search sum_off

pub returns : goal.returns
returns c = search sum_end
