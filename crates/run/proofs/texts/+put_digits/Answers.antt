use Rattle.run.proofs.TextLaws.{puts_none, digits_none, digit_one, digits_are_two, pair_more}
use native.Mathlib.Omega.{arith}
use Rattle.run.proofs.texts.+put_digits.Goals as goal

pub returns-then-pairs-eq0 : goal.returns-then-pairs-eq0
returns-then-pairs-eq0 t c = record { puts = puts_none _ _ _ (digits_none _ _ (omega arith)); upper_bound = omega arith }

pub returns-then-x-lt10 : goal.returns-then-x-lt10
returns-then-x-lt10 t c = record { puts = digit_one _ _ _ _ (omega arith) (omega arith); upper_bound = omega arith }

pub returns-then-x-lt100 : goal.returns-then-x-lt100
returns-then-x-lt100 t c = record {
  puts = digits_are_two _ _ _ _ _ _ (omega arith) (omega arith) (omega arith) c.put_pair.ensures.puts;
  upper_bound = omega arith;
}

pub returns : goal.returns
returns t c = record {
  puts = pair_more _ _ _ _ _ _ _ _ _ (omega arith) (omega arith) c.put_digits-p.ensures.puts c.put_pair-2.ensures.puts;
  upper_bound = omega arith;
}
