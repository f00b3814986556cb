use mathlib.Core.Path.{◌≡◌}
use mathlib.Core.List.{map}
use lib.Dec.{eqb}
use lib.ListN.{take}
use Rattle.message.specs.Numbers.{numbers_at}
use Rattle.message.specs.Asks.{alike}
use Rattle.message.proofs.store.numbers_match.Given as goal

abbrev pub invariant-loop-i : goal.invariant-loop-i
invariant-loop-i g l =
    eqb (g.T.LittleEndian.value l.differing) 0 ≡ alike (numbers_at g.T.LittleEndian.WIDTH l.s l.p l.i) (map g.T.LittleEndian.value (take l.i l.list))
