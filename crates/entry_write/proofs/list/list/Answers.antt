-- The names decide whether there are lines.
use Rattle.std.proofs.Common.{◌∙◌}
use Rattle.entry_write.specs.ListingLaws.{listed-good, listed-bad}
use Rattle.entry_write.proofs.list.list.Goals as goal

pub returns-in_default : goal.returns-in_default
returns-in_default g c = c.bad.ensures ∙ listed-bad _ _ c.drive-w.ensures c.in_default.ensures

pub returns : goal.returns
returns g c = c.lines.ensures ∙ listed-good _ _ c.drive-w.ensures _ c.in-Some.ensures
