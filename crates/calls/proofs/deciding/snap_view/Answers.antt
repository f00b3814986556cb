use Rattle.calls.proofs.DecidingLaws.{snap_even, snap_odd, snap_past}
use Rattle.calls.proofs.deciding.snap_view.Goals as goal

pub returns-then-v-gt-LAST_VIEW : goal.returns-then-v-gt-LAST_VIEW
returns-then-v-gt-LAST_VIEW c = search snap_past

pub returns-then-is_even : goal.returns-then-is_even
returns-then-is_even c = search snap_even

pub returns : goal.returns
returns c = search snap_odd
