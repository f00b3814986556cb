use mathlib.Core.Bool.{false}
use mathlib.Core.Path.{◌≡◌}
use Prim.Native.Nat.{◌+◌, ◌-◌, ◌*◌, ◌≤◌}
use Rattle.bench.specs.Record.{bench_with}
use Rattle.bench.specs.Answers.{held_with}
use Rattle.run.specs.Roll.{misfits}
use Rattle.run.specs.RollSteps.{LinesFit, Ahead}
use Rattle.run.proofs.events.run_events.Given as goal

abbrev pub invariant-loop-i : goal.invariant-loop-i
invariant-loop-i l = record {
  few : l.events ≤ 1024;
  asked : l.calls ≤ l.events;
  near : l.body ≤ 4100 + 65536 * l.i;
  fit : misfits l.roll.bytes.now l.i l.body (l.events - l.i) ≡ false;
  room : LinesFit l.prints l.i l.p l.text;
  ahead :
      Ahead l.prints l.roll.bytes.now l.calls
      (held_with (bench_with l.initial.head l.initial.rows) l.initial.names l.initial.counts l.initial.totals)
      l.at l.initial.text l.i l.body
      (held_with (bench_with l.head l.rows) l.names l.counts l.totals) l.p l.text;
}
