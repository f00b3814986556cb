use Rattle.message.proofs.NumberLaws.{number_next, number_none}
use Prim.Native.Nat.{◌+◌}
use native.Mathlib.Omega.{arith}
use Rattle.message.proofs.little_endian.U16LittleEndian.read_at.Goals as goal

pub returns : goal.returns
returns c =
    let s = c.args.s.now in
    let a = c.args.at in
    omega (
      arith,
      number_next 1 s a (a + 1) (omega arith),
      number_next 0 s (a + 1) (a + 2) (omega arith),
      number_none s (a + 2),
    )
