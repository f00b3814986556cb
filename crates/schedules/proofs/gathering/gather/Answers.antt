use Rattle.schedules.proofs.GatheringLaws.{gathered}
use Rattle.schedules.proofs.gathering.gather.Goals as goal

pub returns : goal.returns
returns c =
    gathered _ _ _ _ _ _ _ _ _ _ _ _ _ _ _ _ _ _ _ _ _ _ c.begin-started.ensures c.receive-taken.ensures c.act-made.ensures
