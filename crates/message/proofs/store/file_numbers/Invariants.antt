use mathlib.Core.Path.{◌≡◌}
use mathlib.Core.List.{map}
use lib.ListN.{take}
use Rattle.message.specs.Numbers.{numbers_at}
use Rattle.message.proofs.store.file_numbers.Given as goal

abbrev pub invariant-loop-i : goal.invariant-loop-i
invariant-loop-i g l =
    map g.T.LittleEndian.value (take l.i l.list) ≡ numbers_at g.T.LittleEndian.WIDTH l.s l.p l.i
