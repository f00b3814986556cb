use mathlib.Core.Path.{◌≡◌}
use mathlib.Core.Bool.{◌||◌}
use Prim.Native.Nat.{◌+◌, ◌-◌, ◌*◌, ◌≤◌}
use Rattle.run.specs.Roll.{bodies_place, events_of, misfits}
use Rattle.run.proofs.form.is_misfit.Given as goal

abbrev pub invariant-loop-i : goal.invariant-loop-i
invariant-loop-i l = record {
  near : l.at ≤ 4100 + 65536 * l.i;
  rest : misfits l.roll 0 (bodies_place l.roll) (events_of l.roll) ≡ (l.wrong || misfits l.roll l.i l.at (l.events - l.i));
}
