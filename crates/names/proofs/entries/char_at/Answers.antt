use native.Mathlib.Omega.{arith}
use Rattle.names.specs.Names.{char_of}
use Rattle.names.specs.NameLaws.{char_place-lt}
use Rattle.names.proofs.entries.char_at.Goals as goal

pub le16-requires : goal.le16-requires
le16-requires c = omega (arith, char_place-lt _ c.requires.1, c.char_place.ensures)

pub returns : goal.returns
unfolding char_of
returns c = simp (← c.char_place.ensures, ← c.le16.ensures)
