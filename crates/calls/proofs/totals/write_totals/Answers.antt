use Rattle.calls.proofs.TotalWalks.{write_on, write_end}
use Rattle.calls.proofs.totals.write_totals.Goals as goal

pub loop-i-preserved : goal.loop-i-preserved
loop-i-preserved c = search (write_on, c.type_inv.counts c.loop-i.i)

pub returns : goal.returns
returns c = search write_end
