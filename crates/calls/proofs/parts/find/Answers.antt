use Rattle.std.proofs.lemmas.Result.{err_from_is_err_and}
use Rattle.calls.proofs.FindCases.{find_refused, find_rising, finds}
use Rattle.calls.proofs.parts.find.Goals as goal

pub returns-in_err-judge_by : goal.returns-in_err-judge_by
returns-in_err-judge_by c =
    let p = err_from_is_err_and c.from_residual.result c.from_residual.ensures.1 in
    rw (p.1, p.2) (search (find_refused, c.in_err-judge_by.was))

pub find_in-requires : goal.find_in-requires
find_in-requires c = find_rising _ _ _ _ _ _ _ _ _ c.judge_by.ensures _ c.in_ok-judge_by.was (λ i. (c.type_inv.counts i).fits)

pub returns : goal.returns
returns c = search (finds, c.in_ok-judge_by.was)
