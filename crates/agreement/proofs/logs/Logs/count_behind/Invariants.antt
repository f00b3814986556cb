use Prim.Native.Nat.{◌≤◌}
use mathlib.Core.Path.{◌≡◌}
use Rattle.agreement.specs.Sets.{count}
use Rattle.agreement.specs.Record.{agreement_from}
use Rattle.agreement.specs.Steps.{backs}
use Rattle.agreement.proofs.logs.Logs.count_behind.Given as goal

abbrev pub invariant-loop-j : goal.invariant-loop-j
invariant-loop-j l = (l.n ≤ l.j) × (l.n ≡ count l.j (backs l.self.names.now l.self.counts.now l.self.base (agreement_from l.g l.self.lengths.now) l.among l.a l.k))
