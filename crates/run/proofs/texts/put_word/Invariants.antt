use mathlib.Core.Path.{◌≡◌}
use Prim.Native.Nat.{◌+◌}
use lib.ListN.{drop}
use Rattle.message.specs.Numbers.{put}
use Rattle.run.proofs.texts.put_word.Given as goal

abbrev pub invariant-loop-i : goal.invariant-loop-i
invariant-loop-i l = put l.initial.text l.at l.word ≡ put l.text (l.at + l.i) (drop l.i l.word)
