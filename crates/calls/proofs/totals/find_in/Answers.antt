use Rattle.calls.proofs.TotalWalks.{seek_found, seek_on, seek_end}
use Rattle.calls.proofs.totals.find_in.Goals as goal

pub returns-then-entry-total : goal.returns-then-entry-total
returns-then-entry-total c = search seek_found

pub loop-i-preserved : goal.loop-i-preserved
loop-i-preserved c = search seek_on

pub returns : goal.returns
returns c = search seek_end
