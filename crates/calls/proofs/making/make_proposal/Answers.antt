use Rattle.std.proofs.Common.{rules, Fits, w16, w64}
use Rattle.calls.proofs.WrittenLaws.{proposal_acts}
use Rattle.calls.proofs.making.make_proposal.Goals as goal

pub returns : goal.returns
returns c =
    let n : Fits w64 c.args.offer.name = search rules in
    let p : Fits w64 c.args.offer.priority = search rules in
    let k : Fits w16 c.args.offer.count = search rules in
    search (proposal_acts, n, p, k)
