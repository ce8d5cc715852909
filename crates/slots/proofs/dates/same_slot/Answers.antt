use native.Mathlib.Omega.{arith}
use mathlib.Core.Path.{◌∙◌}
use Rattle.slots.specs.RangeLaws.{same-cut}
use Rattle.slots.proofs.dates.same_slot.Goals as goal

pub returns : goal.returns
returns c = c.equal.ensures ∙ same-cut _ _ _ _ (omega arith) c.requires.0
