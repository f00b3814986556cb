use Rattle.calls.proofs.SeeingLaws.{used_none, used_first_lem, used_not_first, used_later}
use Rattle.calls.proofs.seeing.used.Goals as goal

pub returns-in_err-k : goal.returns-in_err-k
returns-in_err-k c = rw c.from_residual.ensures (search (used_none, c.in_err-k.was))

pub returns-then-k-lt2 : goal.returns-then-k-lt2
returns-then-k-lt2 c = search (used_first_lem, c.in_ok-k.was)

pub returns-then-v-eq0 : goal.returns-then-v-eq0
returns-then-v-eq0 c = search (used_not_first, c.in_ok-k.was)

pub returns : goal.returns
returns c = search (used_later, c.in_ok-k.was)
