use mathlib.Core.Path.{sym}
use Rattle.run.proofs.EventLaws.{is_open, is_shut, opens}
use Rattle.run.proofs.opening.opened.Goals as goal

pub returns-in-Ok : goal.returns-in-Ok
returns-in-Ok c =
    let given = rw (c.benches.ensures, c.own.ensures) at c.open-opened.ensures in
    let s = c.args.roll.bytes.now in
    (sym (is_open s _ _ _ _ _ _ given c.in-Ok.is), opens s _ _ _ _ _ _ given)

pub returns-in-Err : goal.returns-in-Err
returns-in-Err c =
    let given = rw (c.benches.ensures, c.own.ensures) at c.open-opened.ensures in
    sym (is_shut c.args.roll.bytes.now _ _ _ _ _ _ given _ c.in-Err.is)
