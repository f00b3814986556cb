use Rattle.run.proofs.MadeLaws.{no_event, event_act_not}
use Rattle.run.proofs.made.is_no_act.Goals as goal

pub returns-then-events-event : goal.returns-then-events-event
returns-then-events-event c = search no_event

pub returns : goal.returns
returns c = event_act_not _ _ _ c.events.ensures.0 _ _ c.if-events-event.false c.kind_at.ensures c.ne.ensures
