use Rattle.calls.proofs.TotalWalks.{writable, extended-by, extended_none}
use Rattle.calls.proofs.totals.extend_totals.Goals as goal

pub write_totals-requires : goal.write_totals-requires
write_totals-requires c =
    writable _ _ _ _ c.requires c.if-old-new.true _
    (λ i. (c.type_inv.counts i).fits) c.total_of-before.ensures

pub returns-then-old-new : goal.returns-then-old-new
returns-then-old-new c =
    extended-by _ _ _ _ c.requires c.if-old-new.true _ _ c.total_of-before.ensures
    c.write_totals.ensures

pub returns-else-old-new : goal.returns-else-old-new
returns-else-old-new c = search extended_none
