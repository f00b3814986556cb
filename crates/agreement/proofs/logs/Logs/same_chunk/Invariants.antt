use mathlib.Core.Path.{◌≡◌}
use Rattle.agreement.specs.Steps.{alike}
use Rattle.agreement.proofs.logs.Logs.same_chunk.Given as goal

abbrev pub invariant-loop-i : goal.invariant-loop-i
invariant-loop-i l = l.same ≡ alike l.self.names.now l.self.counts.now l.a l.b l.i
