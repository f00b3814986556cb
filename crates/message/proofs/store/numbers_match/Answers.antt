use Rattle.message.proofs.LoopLaws.{values_next, values_length, gather_next, gather_end}
use Rattle.message.specs.Numbers.{numbers_at}
use Rattle.message.specs.Asks.{alike}
use native.Mathlib.Omega.{arith}
use mathlib.Core.Path.{sym, ap, ◌∙◌}
use lib.Dec.{eqb}
use Prim.Native.Nat.{◌+◌}
use Rattle.message.proofs.store.numbers_match.Goals as goal

pub loop-i-init : goal.loop-i-init
unfolding numbers_at alike
loop-i-init g c = ap (λ n. eqb n 0) (g.met.T.LittleEndian.default_is_zero c.default-differing.result c.default-differing.ensures)

pub loop-i-preserved : goal.loop-i-preserved
loop-i-preserved g c =
    let T = g.T.LittleEndian in
    let laws = g.met.T.LittleEndian in
    gather_next T.WIDTH c.args.s.now _ c.args.p c.loop-i.i _ _ _ _ (T.value c.index-list-i.result)
    (values_length T.value c.args.list.now c.loop-i.i (omega arith))
    c.loop-i.invariant
    (rw c.WIDTH.ensures at c.read_at.ensures)
    (laws.xor_is _ _ _ c.bitxor.ensures)
    (laws.or_is _ _ _ c.bitor-differing.ensures)
    ∙ ap (alike (numbers_at T.WIDTH c.args.s.now c.args.p (c.loop-i.i + 1)))
    (sym (values_next T.value c.args.list.now c.loop-i.i c.index-list-i.result c.loop-i-test.true c.index-list-i.is))

pub returns : goal.returns
returns g c =
    let T = g.T.LittleEndian in
    let laws = g.met.T.LittleEndian in
    gather_end T.value T.WIDTH _ _ _ _ _ _ _ (c.eq.ensures ∙ laws.eq_is _ _) (laws.default_is_zero _ c.default.ensures)
    c.loop-i.invariant c.loop-i-test.false c.loop-i.auto.i-end
