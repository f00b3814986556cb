use Rattle.calls.proofs.SupportCases.{read_late, read_first, read_later}
use Rattle.calls.proofs.counting.read_at.Goals as goal

pub returns-in_default : goal.returns-in_default
returns-in_default c = search read_late

pub returns-then-v-eq0 : goal.returns-then-v-eq0
returns-then-v-eq0 c = search read_first

pub returns : goal.returns
returns c = search read_later
