use Rattle.calls.proofs.SupportCases.{read_whole}
use Rattle.calls.proofs.support.Goals as goal

pub returns : goal.returns
returns c = search read_whole
