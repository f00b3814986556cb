use native.Mathlib.Omega.{arith}
use Rattle.run.proofs.RollForm.{sizes_fit}
use Rattle.run.proofs.roll.Roll.benches.Goals as goal

pub bounds-self-0 : goal.bounds-self-0
bounds-self-0 c = omega (arith, sizes_fit _ c.args.self.shaped)
