use Rattle.run.proofs.HeldLaws.{lies_within, room_next, ahead_start, ahead_next, ahead_end}
use Rattle.run.proofs.RollForm.{fit_start, fit_next}
use native.Mathlib.Omega.{arith}
use borrow.Author.Rules.{rules}
use Rattle.run.proofs.events.run_events.Goals as goal

pub loop-i-init : goal.loop-i-init
loop-i-init c = record {
  few = search rules;
  asked = search rules;
  near = search rules;
  fit = fit_start _ _ c.events-events.ensures.0 c.args.roll.shaped;
  room = search rules;
  ahead = search ahead_start;
}

pub call_event-called-requires : goal.call_event-called-requires
call_event-called-requires c = search lies_within

pub loop-i-preserved : goal.loop-i-preserved
loop-i-preserved c =
    let inv = c.loop-i.invariant in
    record {
      few = inv.few;
      asked = inv.asked;
      near = omega arith;
      fit = fit_next _ _ _ _ (omega arith) inv.fit _ c.length_at-body.ensures.0;
      room = room_next _ _ _ _ inv.room _ _ c.tell-p.ensures.line_ends (search rules);
      ahead =
          ahead_next _ _ _ _ _ _ _ _ _ _ _ inv.ahead (omega arith) _ _ c.call_event-called.ensures _ _
          c.tell-p.ensures.puts _ c.length_at-body.ensures.0;
    }

pub returns : goal.returns
returns c = search ahead_end
