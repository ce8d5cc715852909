use mathlib.Core.Path.{refl}
use Rattle.names.specs.Held.{held}
use Rattle.names.proofs.text.empty.Goals as goal

pub returns : goal.returns
unfolding held
returns c = (refl, refl)
