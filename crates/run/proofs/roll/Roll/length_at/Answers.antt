use Rattle.run.proofs.RollForm.{event_marked}
use Rattle.run.proofs.roll.Roll.length_at.Goals as goal

pub length_at-requires : goal.length_at-requires
length_at-requires c = event_marked _ c.args.self.shaped _ c.requires
