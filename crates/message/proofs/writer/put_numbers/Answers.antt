use Rattle.message.proofs.LoopLaws.{values_next, values_length}
use Rattle.message.proofs.NumberLaws.{bytes_more}
use Rattle.message.specs.Numbers.{put, bytes_for_each}
use native.Mathlib.Omega.{arith}
use mathlib.Core.List.{List, map}
use Rattle.std.proofs.lemmas.List.{take_all}
use mathlib.Core.Path.{refl, sym, ap, ◌∙◌}
use Prim.Native.Nat.{ℕ}
use Rattle.message.proofs.writer.put_numbers.Goals as goal

pub loop-i-init : goal.loop-i-init
unfolding put bytes_for_each
loop-i-init g c = refl

pub loop-i-preserved : goal.loop-i-preserved
loop-i-preserved g c =
    let T = g.T.LittleEndian in
    bytes_more T.WIDTH c.args.out.now c.loop-i.out c.write_at.new.out _ c.args.p c.loop-i.i (T.value c.index-list-i.result)
    (values_length T.value c.args.list.now c.loop-i.i (omega arith))
    c.loop-i.invariant
    (rw c.WIDTH.ensures at c.write_at.ensures)
    ∙ ap (λ (ns : List ℕ). put c.args.out.now c.args.p (bytes_for_each T.WIDTH ns))
    (sym (values_next T.value c.args.list.now c.loop-i.i c.index-list-i.result c.loop-i-test.true c.index-list-i.is))

pub returns : goal.returns
returns g c =
    let T = g.T.LittleEndian in
    c.loop-i.invariant
    ∙ ap (λ ns. put c.args.out.now c.args.p (bytes_for_each T.WIDTH (map T.value ns)))
    (take_all c.loop-i.i c.args.list.now c.loop-i-test.false)
