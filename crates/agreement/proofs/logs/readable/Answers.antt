use mathlib.Core.Path.{refl}
use Rattle.agreement.proofs.FindLaws.{barred_by, readable_where}
use Rattle.agreement.proofs.logs.readable.Goals as goal

pub returns-then-lacks_room-is_over : goal.returns-then-lacks_room-is_over
returns-then-lacks_room-is_over c = search barred_by

pub invariant_of-result : goal.invariant_of-result
invariant_of-result c = record { readable = search (readable_where, barred_by) }

pub returns : goal.returns
returns c = (search barred_by, refl, refl, refl, refl)
