use Rattle.agreement.proofs.FilingLaws.{some_bytes}
use Rattle.agreement.proofs.FileCases.{store_equivocator, store_same, store_other, store_new}
use Rattle.agreement.proofs.filing.store_fit.Goals as goal

pub returns-then-has : goal.returns-then-has
returns-then-has c = search store_equivocator

pub returns-then-is_filed : goal.returns-then-is_filed
returns-then-is_filed c = search store_same

pub returns-then-has-2 : goal.returns-then-has-2
returns-then-has-2 c = search store_other

pub bounds-bytes-0 : goal.bounds-bytes-0
bounds-bytes-0 c = search some_bytes

pub returns : goal.returns
returns c = search store_new
