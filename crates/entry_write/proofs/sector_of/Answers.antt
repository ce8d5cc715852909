use mathlib.Core.Path.{refl}
use Rattle.entry_write.specs.EntryWrite.{entry_sector}
use Rattle.entry_write.proofs.sector_of.Goals as goal

pub returns : goal.returns
unfolding entry_sector
returns c = refl
