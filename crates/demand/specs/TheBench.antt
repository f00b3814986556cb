-- The machine that demand 3 is proved of: its calls are the definitions that the code's contracts cite. A call on a lent record does what
-- the call by value does. Assumes nothing.
use Rattle.bench.specs.ByRecord.{open_of, begin_of, receive_of, act_of, find_of}
use Rattle.demand.specs.Demand.{Machine}

abbrev pub the_bench : Machine
the_bench = record {
  open' = λ T own l. open_of T.n own l;
  begin' = λ w x b. begin_of x b;
  receive' = λ w x bytes. receive_of x bytes;
  act' = λ w x block priority out. act_of x block priority out;
  find' = λ x e. find_of x e;
}
