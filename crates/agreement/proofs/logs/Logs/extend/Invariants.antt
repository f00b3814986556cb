use Prim.Native.Nat.{◌≤◌, ◌<◌, ◌-◌}
use Rattle.message.specs.Limits.{most_blocks}
use Rattle.agreement.specs.Limits.{most_senders}
use Rattle.agreement.specs.Steps.{Extending, Following}
use Rattle.agreement.proofs.logs.Logs.extend.Given as goal

abbrev pub invariant-loop-l : goal.invariant-loop-l
invariant-loop-l l = ((l.l ≤ most_blocks) × (l.who < most_senders)) ×
    (Extending l.initial.followers l.all × Following l.self.names.now l.self.counts.now l.self.base l.self.lengths.now l.initial.followers l.all l.who l.l l.followers)

abbrev pub decreases-loop-l : goal.decreases-loop-l
decreases-loop-l l = most_blocks - l.l
