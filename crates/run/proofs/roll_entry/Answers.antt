use Rattle.run.proofs.PageLaws.{nothing_unshown, nothing_shut, something_shown}
use Rattle.run.proofs.EntryLaws.{entry_none, entry_whole}
use Rattle.run.proofs.roll_entry.Goals as goal

pub returns-in_default : goal.returns-in_default
returns-in_default c = entry_none _ _ _ _ (nothing_unshown _ _ _ _ _ c.in_default.ensures)

pub returns-in_default-opened : goal.returns-in_default-opened
returns-in_default-opened c =
    rw (← c.in-Some.ensures.1) (entry_none _ _ _ _ (nothing_shut _ _ _ _ _ c.in_default-opened.ensures))

pub returns : goal.returns
returns c =
    let roll = c.in-Some.ensures in
    let opens = c.in-Some-opened.ensures in
    rw (← roll.1)
    (entry_whole _ _ _ _ (something_shown _ _ _ _ _ roll.0 opens.0) _ opens.1 _ _ _ c.run_events-ran.ensures _ _ _ _
    c.find-place.ensures _ _ c.put_entry.ensures)
