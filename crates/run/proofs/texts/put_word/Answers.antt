use Rattle.run.proofs.TextLaws.{word_next, word_end}
use Prim.Native.Nat.{ℕ, ◌+◌}
use native.Mathlib.Omega.{arith}
use mathlib.Core.Path.{◌≡◌, refl, ap, ◌∙◌}
use lib.ListN.{get_or, set, drop}
use Rattle.message.specs.Numbers.{put}
use Rattle.run.proofs.texts.put_word.Goals as goal

pub loop-i-init : goal.loop-i-init
loop-i-init c =
    let e : c.args.at ≡ c.args.at + 0 = omega arith in
    ap (λ (p : ℕ). put c.args.text.now p c.args.word.now) e

pub loop-i-preserved : goal.loop-i-preserved
loop-i-preserved c =
    let e : (c.args.at + c.loop-i.i) + 1 ≡ c.args.at + (c.loop-i.i + 1) = omega arith in
    word_next _ _ _ _ _ c.loop-i.invariant _ c.loop-i-test.true refl
    ∙ ap (λ (p : ℕ). put (set c.loop-i.text (c.args.at + c.loop-i.i) (get_or c.args.word.now c.loop-i.i 0)) p (drop (c.loop-i.i + 1) c.args.word.now)) e

pub returns : goal.returns
returns c = record { place = refl; text = search word_end }
