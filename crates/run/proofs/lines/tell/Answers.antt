use native.Mathlib.Omega.{arith}
use mathlib.Core.Path.{refl}
use Rattle.run.proofs.TextLaws.{puts_none}
use Rattle.run.proofs.lines.tell.Goals as goal

pub returns : goal.returns
returns c = record {
  puts = rw c.if-prints.false (puts_none _ _ _ refl);
  line_ends = record { short = λ t. omega arith };
}
