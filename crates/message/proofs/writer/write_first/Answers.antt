use Rattle.message.proofs.WriterLaws.{first_done, first_not}
use mathlib.Core.Path.{ap, ◌∙◌}
use Rattle.message.specs.declared.Head.{Head}
use Rattle.message.proofs.writer.write_first.Goals as goal

pub returns-then-is_within-m : goal.returns-then-is_within-m
returns-then-is_within-m c = first_done _ _ _ _ _ _ c.requires _ (c.from-m.ensures ∙ ap (λ (h : Head). h.blocks) c.head_of.ensures) _
    c.is_within.ensures _ _ _
    c.if-is_within-m.true
    c.put_head.ensures
    c.put_numbers.ensures c.put_numbers-then-is_within-m.ensures

pub returns : goal.returns
returns c = first_not _ _ _ _ _ _ c.requires _ (c.from-m.ensures ∙ ap (λ (h : Head). h.blocks) c.head_of.ensures) _ c.is_within.ensures c.if-is_within-m.false
