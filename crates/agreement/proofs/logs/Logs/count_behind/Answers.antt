use Rattle.agreement.proofs.CountLaws.{count_none, count_next}
use borrow.Author.Rules.{rules}
use Rattle.agreement.proofs.logs.Logs.count_behind.Goals as goal

pub loop-j-init : goal.loop-j-init
loop-j-init c = (search rules, count_none _)

pub loop-j-preserved : goal.loop-j-preserved
loop-j-preserved c = count_next _ _ _ _ _ c.loop-j.invariant c.is_behind.ensures c.from-n.ensures
