use Rattle.run.proofs.TextLaws.{digit_one, digits_are_two}
use native.Mathlib.Omega.{arith}
use Rattle.run.proofs.texts.put_decimal.Goals as goal

pub returns-then-x-lt10 : goal.returns-then-x-lt10
returns-then-x-lt10 c = record { puts = digit_one _ _ _ _ (omega arith) (omega arith); upper_bound = omega arith }

pub returns-then-x-lt100 : goal.returns-then-x-lt100
returns-then-x-lt100 c = record { puts = digits_are_two _ _ _ _ _ _ (omega arith) (omega arith) (omega arith) c.put_pair.ensures.puts; upper_bound = omega arith }
