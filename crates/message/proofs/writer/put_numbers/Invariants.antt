use mathlib.Core.Path.{◌≡◌}
use mathlib.Core.List.{map}
use lib.ListN.{take}
use Rattle.message.specs.Numbers.{put, bytes_for_each}
use Rattle.message.proofs.writer.put_numbers.Given as goal

abbrev pub invariant-loop-i : goal.invariant-loop-i
invariant-loop-i g l =
    l.out ≡ put l.initial.out l.p (bytes_for_each g.T.LittleEndian.WIDTH (map g.T.LittleEndian.value (take l.i l.list)))
