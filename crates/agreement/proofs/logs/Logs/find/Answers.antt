use Rattle.agreement.proofs.FindLaws.{extend_asks, find_found, find_none}
use Rattle.agreement.proofs.logs.Logs.find.Goals as goal

pub extend-requires : goal.extend-requires
extend-requires c =
    extend_asks _ _ _ _ _ _ c.in_both-may.ensures c.senders-all.ensures.0
    c.size.ensures.0 c.if-all-size.true

pub returns-then-all-size : goal.returns-then-all-size
returns-then-all-size c = search find_found

pub returns : goal.returns
returns c = search find_none
