use mathlib.Core.Path.{◌≡◌}
use Rattle.message.specs.Message.{any_zero, names_in}
use Rattle.message.proofs.reader.zero_named.Given as goal

abbrev pub invariant-loop-i : goal.invariant-loop-i
invariant-loop-i l = l.zero ≡ any_zero (names_in l.s l.i)
