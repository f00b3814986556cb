use mathlib.Core.Path.{◌≡◌}
use Prim.Native.Nat.{◌+◌, ◌-◌, ◌*◌, ◌≤◌}
use Rattle.run.specs.Roll.{bodies_place}
use Rattle.run.specs.Held.{body_from}
use Rattle.run.proofs.roll.Roll.body_place.Given as goal

abbrev pub invariant-loop-i : goal.invariant-loop-i
invariant-loop-i l = record {
  few : l.event ≤ 1024;
  near : l.at ≤ 4100 + 65536 * l.i;
  rest :
      body_from l.self.bytes.now 0 (bodies_place l.self.bytes.now) l.event
      ≡ body_from l.self.bytes.now l.i l.at (l.event - l.i);
}
