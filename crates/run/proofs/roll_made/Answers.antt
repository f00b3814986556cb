use Rattle.run.proofs.MadeLaws.{made_unmade, made_shut, made_event, made_whole}
use Rattle.run.proofs.HeldLaws.{room_silent}
use Rattle.run.proofs.roll_made.Goals as goal

pub returns-in_default : goal.returns-in_default
returns-in_default c = made_unmade _ _ _ c.in_default.ensures

pub returns-in_default-opened : goal.returns-in_default-opened
returns-in_default-opened c = rw (← c.in-Some.ensures.1) (made_shut _ _ _ c.in_default-opened.ensures)

pub body_place-at-requires : goal.body_place-at-requires
body_place-at-requires c = made_event _ _ c.in-Some.ensures.0

pub run_events-ran-requires : goal.run_events-ran-requires
run_events-ran-requires c = (made_event _ _ c.in-Some.ensures.0, room_silent _ _)

pub returns : goal.returns
returns c =
    let roll = c.in-Some.ensures in
    let opens = c.in-Some-opened.ensures in
    rw (← roll.1)
    (made_whole _ _ _ roll.0 opens.0 _ c.body_place-at.ensures.0 _ opens.1 _ _ _ c.run_events-ran.ensures _ _ c.act_in.ensures)
