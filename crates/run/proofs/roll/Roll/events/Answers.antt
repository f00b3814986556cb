use native.Mathlib.Omega.{arith}
use Rattle.run.proofs.RollForm.{events_few}
use Rattle.run.proofs.roll.Roll.events.Goals as goal

pub returns : goal.returns
returns c = (c.events_of.ensures.0, omega (arith, events_few _ c.args.self.shaped))
