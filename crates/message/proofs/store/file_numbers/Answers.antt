use Rattle.message.proofs.LoopLaws.{values_stored}
use Rattle.message.proofs.NumberLaws.{numbers_more}
use native.Mathlib.Omega.{arith}
use mathlib.Core.Path.{◌≡◌, sym, ap, ◌∙◌}
use mathlib.Core.List.{[], ◌∷◌, ◌++◌, map}
use lib.ListN.{length}
use Rattle.std.proofs.lemmas.List.{take_all}
use Rattle.message.specs.Numbers.{numbers_at}
use mathlib.Core.Path.{refl}
use Rattle.message.proofs.store.file_numbers.Goals as goal

pub loop-i-init : goal.loop-i-init
unfolding numbers_at
loop-i-init g c = refl

pub loop-i-preserved : goal.loop-i-preserved
loop-i-preserved g c =
    let T = g.T.LittleEndian in
    let n = rw c.WIDTH.ensures at c.read_at.ensures in
    values_stored T.value c.loop-i.list c.loop-i.i c.read_at.result (omega arith)
    ∙ (λ j. c.loop-i.invariant j ++ (n j ∷ []))
    ∙ sym (numbers_more T.WIDTH c.args.s.now c.args.p c.loop-i.i)

pub returns : goal.returns
returns g c =
    let T = g.T.LittleEndian in
    let all : c.loop-i.i ≡ length c.args.list.now = omega arith in
    ap (map T.value) (sym (take_all c.loop-i.i c.loop-i.list (omega arith)))
    ∙ c.loop-i.invariant
    ∙ ap (numbers_at T.WIDTH c.args.s.now c.args.p) all
