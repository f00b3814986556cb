use Rattle.message.proofs.LoopLaws.{zero_next}
use mathlib.Core.Path.{refl}
use Rattle.message.specs.Numbers.{numbers_at}
use Rattle.message.specs.Choice.{any_of}
use Rattle.message.proofs.reader.zero_named.Goals as goal

pub loop-i-init : goal.loop-i-init
unfolding numbers_at any_of
loop-i-init c = refl

pub loop-i-preserved : goal.loop-i-preserved
loop-i-preserved c = zero_next 8 c.args.s.now 16 c.loop-i.i _ _ c.loop-i.invariant c.read_at.ensures
