use Rattle.agreement.specs.Steps.{Leads}
use Rattle.agreement.proofs.logs.Logs.majority_sender.Given as goal

abbrev pub invariant-loop-j : goal.invariant-loop-j
invariant-loop-j l = Leads l.self.names.now l.self.counts.now l.self.base l.followers l.l l.who l.j-iterator.left l.best l.weight
