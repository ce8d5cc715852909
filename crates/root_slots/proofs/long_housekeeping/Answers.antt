use mathlib.Core.Path.{◌∙◌, ap}
use Rattle.housekeeping.specs.Housekeeping.{is_housekeeping}
use Rattle.names.specs.Names.{long_name}
use Rattle.names.specs.NameLaws.{entries_read-le}
use Rattle.root_slots.proofs.long_housekeeping.Goals as goal

pub name_by-name-requires : goal.name_by-name-requires
name_by-name-requires c = (rw c.entries_read.ensures (entries_read-le _ _), c.requires.0, c.requires.1)

pub returns : goal.returns
unfolding long_name
returns c = c.is_housekeeping.ensures ∙ ap is_housekeeping (c.name_by-name.ensures.1 ∙ rw c.entries_read.ensures)
