use mathlib.Core.Path.{ap, ◌∙◌}
use Rattle.agreement.proofs.MembersLaws.{filter_start, filter_no, filter_yes, filter_end}
use Rattle.agreement.proofs.sets.filtered.Goals as goal

pub loop-i-init : goal.loop-i-init
loop-i-init g c =
    filter_start _ _ _ (ap (λ x. x.left) c.into_iter-i-iterator.ensures.into_iter_gives ∙ c.members-i-items.ensures)

pub loop-i-preserved-then-passes : goal.loop-i-preserved-then-passes
loop-i-preserved-then-passes g c =
    filter_yes _ _ _ _ c.loop-i.invariant _ _ c.in-Some.ensures.steps.0 _ c.passes.ensures c.if-passes.true _ c.in-Some.ensures.steps.1

pub loop-i-preserved : goal.loop-i-preserved
loop-i-preserved g c =
    filter_no _ _ _ _ c.loop-i.invariant _ _ c.in-Some.ensures.steps.0 _ c.passes.ensures c.if-passes.false

pub returns : goal.returns
returns g c = filter_end _ _ _ _ c.loop-i.invariant c.in-None.ensures.steps.0
