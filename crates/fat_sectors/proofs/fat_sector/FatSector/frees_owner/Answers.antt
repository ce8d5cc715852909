use mathlib.Core.Path.{sym, ◌∙◌}
use native.Mathlib.Omega.{arith}
use Rattle.std.proofs.lemmas.List.{length-map}
use Rattle.file_table.specs.Files.{start_of}
use Rattle.fat_sectors.specs.Gathered.{judged_as}
use Rattle.fat_sectors.proofs.EntryLaws.{marked-owner, none-freed}
use Rattle.fat_sectors.proofs.fat_sector.FatSector.frees_owner.Goals as goal

pub returns-then-not-gathered : goal.returns-then-not-gathered
returns-then-not-gathered c =
    sym (none-freed (judged_as c.args.self.now) (sym c.requires.any ∙ c.if-not-gathered.true) _)

pub returns : goal.returns
returns c =
    c.is_freed.ensures
    ∙ marked-owner (judged_as c.args.self.now) c.args.gathered.now.rows c.requires.marked (omega (arith, length-map c.args.self.now.files.rows.now start_of, c.args.self.now.few)) _
