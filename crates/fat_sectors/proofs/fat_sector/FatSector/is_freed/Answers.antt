use mathlib.Core.Path.{sym, ◌∙◌}
use native.Mathlib.Omega.{arith}
use Rattle.std.proofs.lemmas.List.{length-map}
use Rattle.vdisk.specs.OwnerLaws.{owner-is}
use Rattle.file_table.specs.Files.{start_of}
use Rattle.fat_sectors.specs.Gathered.{marked_owner}
use Rattle.fat_sectors.proofs.fat_sector.FatSector.is_freed.Goals as goal

pub bounds-rows-j : goal.bounds-rows-j
bounds-rows-j c =
    omega (arith, (owner-is _ _ _ _ _ (sym c.owner.ensures ∙ c.in-Dyn.is)).row, length-map c.args.self.now.files.rows.now start_of, c.args.self.now.few)

pub returns-in-Reserved : goal.returns-in-Reserved
unfolding marked_owner
returns-in-Reserved c = simp (sym c.owner.ensures ∙ c.in-Reserved.is)

pub returns-in-Fixed : goal.returns-in-Fixed
unfolding marked_owner
returns-in-Fixed c = simp (sym c.owner.ensures ∙ c.in-Fixed.is)

pub returns-in-Dyn : goal.returns-in-Dyn
unfolding marked_owner
returns-in-Dyn c = simp (sym c.owner.ensures ∙ c.in-Dyn.is)

pub returns-in-Free : goal.returns-in-Free
unfolding marked_owner
returns-in-Free c = simp (sym c.owner.ensures ∙ c.in-Free.is)
