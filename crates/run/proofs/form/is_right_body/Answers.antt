use mathlib.Core.Path.{refl}
use Rattle.run.specs.Roll.{right_body}
use Rattle.run.proofs.form.is_right_body.Goals as goal

pub returns : goal.returns
unfolding right_body
returns c = refl
