use mathlib.Core.Path.{sym, ◌∙◌}
use Rattle.root_sectors.specs.Root.{place_of}
use Rattle.root_sectors.proofs.kept.place_of.Goals as goal

pub returns-in-Some : goal.returns-in-Some
unfolding place_of
returns-in-Some c = simp (sym c.rec_idx.ensures ∙ c.in-Some.is)

pub returns-in-None : goal.returns-in-None
unfolding place_of
returns-in-None c = simp (sym c.rec_idx.ensures ∙ c.in-None.is) c.free_rec.ensures
