use Rattle.calls.proofs.MakingLaws.{vote_late, vote_nowhere, vote_acts}
use Rattle.calls.proofs.making.vote.Goals as goal

pub returns-then-v-gt-LAST_VIEW : goal.returns-then-v-gt-LAST_VIEW
returns-then-v-gt-LAST_VIEW c = search vote_late

pub returns-in_default : goal.returns-in_default
returns-in_default c = search vote_nowhere

pub returns : goal.returns
returns c = search vote_acts
