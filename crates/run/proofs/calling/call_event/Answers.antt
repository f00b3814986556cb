use native.Mathlib.Omega.{arith}
use Rattle.run.proofs.RollForm.{roll_short}
use Rattle.run.proofs.EventLaws.{begin_gives, receive_gives, act_gives}
use Rattle.run.proofs.calling.call_event.Goals as goal

pub returns-in-Begin : goal.returns-in-Begin
returns-in-Begin c = search (begin_gives, c.in-Begin.ensures)

pub returns-in-Receive : goal.returns-in-Receive
returns-in-Receive c = search (receive_gives, c.in-Receive.ensures)

pub act_event-requires : goal.act_event-requires
act_event-requires c = let short = roll_short _ c.args.roll.shaped in let body = c.requires.body in omega arith

pub returns-in-Act : goal.returns-in-Act
returns-in-Act c = search (act_gives, c.in-Act.ensures)
