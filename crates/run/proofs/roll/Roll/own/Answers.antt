use native.Mathlib.Omega.{arith}
use Rattle.run.proofs.RollForm.{sizes_fit}
use Rattle.run.proofs.roll.Roll.own.Goals as goal

pub bounds-self-1 : goal.bounds-self-1
bounds-self-1 c = omega (arith, sizes_fit _ c.args.self.shaped)
