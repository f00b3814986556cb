use Rattle.message.proofs.NumberLaws.{number_found, number_missing}
use Rattle.message.proofs.number.number_in.Goals as goal
use mathlib.Core.Path.{◌∙◌}

pub returns-then-fits : goal.returns-then-fits
returns-then-fits g c = number_found _ _ _ _ (rw c.WIDTH.ensures at c.fits.ensures) _ c.if-fits.true c.read_at.ensures

pub returns : goal.returns
returns g c = g.met.T.LittleEndian.default_is_zero c.default.result c.default.ensures ∙ number_missing _ _ _ _ (rw c.WIDTH.ensures at c.fits.ensures) c.if-fits.false
