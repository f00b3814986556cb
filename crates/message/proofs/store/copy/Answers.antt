use Rattle.message.proofs.StoreLaws.{copy_done, copy_outside}
use Rattle.message.proofs.store.copy.Goals as goal

pub returns-then-fits-is_within : goal.returns-then-fits-is_within
returns-then-fits-is_within c = copy_done _ _ _ _ _ _ _ c.fits.ensures c.is_within.ensures _ _
    c.if-fits-is_within.true c.copy_within.ensures.after c.copy_within-then-fits-is_within.ensures.after

pub returns : goal.returns
returns c = copy_outside _ _ c.args.a c.args.b
    c.args.k _ _ c.fits.ensures c.is_within.ensures
    c.if-fits-is_within.false
