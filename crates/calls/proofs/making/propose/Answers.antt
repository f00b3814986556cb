use Rattle.calls.proofs.MakingLaws.{propose_late, propose_nobody, propose_full, propose_acts}
use Rattle.calls.proofs.making.propose.Goals as goal

pub returns-then-v-offer : goal.returns-then-v-offer
returns-then-v-offer c = search propose_late

pub returns-in_default : goal.returns-in_default
returns-in_default c = search propose_nobody

pub returns-then-log-ge-MOST_BLOCKS : goal.returns-then-log-ge-MOST_BLOCKS
returns-then-log-ge-MOST_BLOCKS c = search propose_full

pub returns : goal.returns
returns c = search propose_acts
