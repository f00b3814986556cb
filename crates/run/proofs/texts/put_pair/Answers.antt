use Rattle.run.proofs.TextLaws.{pair_puts}
use mathlib.Core.Path.{refl}
use Rattle.run.proofs.texts.put_pair.Goals as goal

pub returns : goal.returns
returns c = record { puts = pair_puts _ _ _; value = refl }
