use Rattle.calls.proofs.DecidingLaws.{settle_extends, settle_parts, settle_stays}
use Rattle.calls.proofs.deciding.settle.Goals as goal

pub returns-then-is_prefix : goal.returns-then-is_prefix
returns-then-is_prefix c = search settle_extends

pub returns-then-is_prefix-2 : goal.returns-then-is_prefix-2
returns-then-is_prefix-2 c = search settle_stays

pub returns : goal.returns
returns c = search settle_parts
