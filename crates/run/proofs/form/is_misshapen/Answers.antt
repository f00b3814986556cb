use Rattle.run.proofs.RollForm.{shape_size, shape_many, shape_scant, shape_is}
use Rattle.run.proofs.form.is_misshapen.Goals as goal

pub returns-then-roll : goal.returns-then-roll
returns-then-roll c = search shape_size

pub returns-then-events-gt-MOST_EVENTS : goal.returns-then-events-gt-MOST_EVENTS
returns-then-events-gt-MOST_EVENTS c = search shape_many

pub returns-then-roll-events : goal.returns-then-roll-events
returns-then-roll-events c = search shape_scant

pub returns : goal.returns
returns c = search shape_is
