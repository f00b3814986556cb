use Rattle.std.proofs.Common.{arith, ◌≡◌, ◌<◌, drop, length}
use Rattle.script.proofs.ClausesIterator.next.Goals as goal
use Rattle.script.specs.Clauses.{from_end, text_of, said_of, end_of}

pub returns-clause-steps : goal.returns-clause-steps
returns-clause-steps c =
    let script = c.args.self.now.rest.now in
    let left : c.split_end-end.result.1.now ≡ drop 1 (from_end script) = cc in
    let text : c.ended.result.text.now ≡ text_of script = cc in
    let said : c.ended.result.said.now ≡ said_of script = cc in
    let end : c.ended.result.end ≡ end_of script = cc in
    let less : length c.split_end-end.result.1.now < length script = grind arith in
    (less, record { text = text; said = said; end = end; left = left })
