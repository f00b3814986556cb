use Rattle.std.proofs.lemmas.Result.{err_from_is_err_and}
use Rattle.calls.proofs.ReceiveCases.{read_refused, read_log, read_proposal}
use Rattle.calls.proofs.filing.take.Goals as goal

pub returns-in_err-message : goal.returns-in_err-message
returns-in_err-message c =
    let p = err_from_is_err_and c.from_residual.result c.from_residual.ensures.1 in
    rw p.1 (search (read_refused, c.in_err-message.was, p.2))

pub returns-in-Log : goal.returns-in-Log
returns-in-Log c = search (read_log, c.in_ok-message.was)

pub returns-in-Proposal : goal.returns-in-Proposal
returns-in-Proposal c = search (read_proposal, c.in_ok-message.was)
