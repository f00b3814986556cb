use native.Mathlib.Omega.{arith}
use Rattle.run.proofs.PageLaws.{flags_are}
use Rattle.run.proofs.slots.put_set.Goals as goal

pub returns : goal.returns
returns c =
    let inv = c.loop-i.invariant in
    let is = flags_are _ _ _ inv.0 (omega arith) inv.1 in
    record { puts = rw is at c.put_word.ensures; value = omega arith }
