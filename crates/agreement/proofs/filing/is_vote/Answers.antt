use Rattle.agreement.proofs.FilingLaws.{fit_by}
use Rattle.agreement.proofs.VoteCases.{vote-unfit, vote_few, vote_differing, vote_filed, vote_nothing}
use Rattle.agreement.proofs.filing.is_vote.Goals as goal

pub returns-then-unfit : goal.returns-then-unfit
returns-then-unfit c = search vote-unfit

pub has-requires : goal.has-requires
has-requires c = search vote_few

pub returns-then-has : goal.returns-then-has
returns-then-has c = search vote_differing

pub has-requires-2 : goal.has-requires-2
has-requires-2 c = search vote_few

pub bounds-lengths-i : goal.bounds-lengths-i
bounds-lengths-i c = search vote_few

pub is_filed-requires : goal.is_filed-requires
is_filed-requires c = search fit_by

pub returns-then-has-2 : goal.returns-then-has-2
returns-then-has-2 c = search vote_filed

pub returns : goal.returns
returns c = search vote_nothing
