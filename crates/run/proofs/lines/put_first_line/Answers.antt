use Rattle.run.proofs.TextLaws.{puts_first}
use native.Mathlib.Omega.{arith}
use Rattle.run.proofs.lines.put_first_line.Goals as goal

pub returns : goal.returns
returns c = record {
  puts =
      rw (← c.own-own.ensures, ← c.benches-benches.ensures)
      (puts_first _ _ _ _ _ _ _ _ _ c.put_numbered-p.ensures.puts c.put_numbered-q.ensures.puts c.put_word.ensures);
  upper_bound = omega arith;
}
