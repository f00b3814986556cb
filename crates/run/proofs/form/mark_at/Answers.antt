use native.Mathlib.Omega.{arith}
use Rattle.run.proofs.RollForm.{mark_is}
use Rattle.run.proofs.form.mark_at.Goals as goal

pub returns : goal.returns
returns c = mark_is _ _ _ c.requires.1 (λ k. omega (arith, c.type_inv.roll k)) c.from_le_bytes.ensures
