use Rattle.run.proofs.PageLaws.{page_put}
use native.Mathlib.Omega.{arith}
use Rattle.run.proofs.slots.put_page.Goals as goal

pub returns : goal.returns
returns c = record { puts = search page_put; value = omega arith }
