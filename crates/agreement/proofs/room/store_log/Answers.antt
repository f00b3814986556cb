use Rattle.agreement.proofs.FilingLaws.{stored_filed}
use Rattle.agreement.proofs.room.store_log.Goals as goal

pub returns : goal.returns
returns c = stored_filed _ _ _ _ _ c.requires _ _ _ _
    c.place_of-at.ensures c.file.ensures
