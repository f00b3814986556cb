use Rattle.calls.proofs.FindCases.{find_whole}
use Rattle.calls.proofs.find.Goals as goal

pub returns : goal.returns
returns c = search find_whole
