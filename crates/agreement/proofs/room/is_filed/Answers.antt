use Rattle.agreement.proofs.FilingLaws.{is_filed}
use Rattle.agreement.proofs.room.is_filed.Goals as goal

pub returns : goal.returns
returns c = search is_filed
