use Rattle.agreement.proofs.FilingLaws.{fit_by}
use Rattle.agreement.proofs.FileCases.{store_unfit}
use Rattle.agreement.proofs.filing.store.Goals as goal

pub returns-then-unfit : goal.returns-then-unfit
returns-then-unfit c = search store_unfit

pub store_fit-requires : goal.store_fit-requires
store_fit-requires c = search fit_by
