use mathlib.Core.Path.{sym, ◌∙◌}
use borrow.Author.Tests.{eq-eqb, ne_eqb}
use native.Mathlib.Omega.{arith}
use lib.ListN.{get_or}
use Rattle.loops.specs.Loops.{all-go, all-stop, all-end}
use Rattle.vdisk.specs.DriveLaws.{clusters_of-le}
use Rattle.file_table.proofs.RowLaws.{any_file}
use Rattle.fat_sectors.specs.FatLaws.{zero_of}
use Rattle.fat_sectors.specs.Gathered.{judged_as}
use Rattle.fat_sectors.proofs.EntryLaws.{zeroes-row}
use Rattle.fat_sectors.proofs.fat_sector.FatSector.zeroes_file.Goals as goal

pub overflow_add-end : goal.overflow_add-end
overflow_add-end c = omega (arith, c.nclus.ensures, clusters_of-le (get_or c.args.self.now.files.rows.now c.args.j any_file).vsize (omega arith))

pub returns-then-value-ne0 : goal.returns-then-value-ne0
returns-then-value-ne0 c =
    all-stop (zero_of (judged_as c.args.self.now)) _ _ _ c.loop-c.invariant.2 c.loop-c-test.true (ne_eqb _ _ (λ e. c.if-value-ne0.true (c.value.ensures ∙ e)))
    ∙ zeroes-row c.args.self.now c.args.j _ c.requires _ _ _ c.nclus.ensures c.max-from.ensures c.min-last.ensures

pub loop-c-preserved : goal.loop-c-preserved
loop-c-preserved c =
    (c.loop-c.invariant.0, c.loop-c.invariant.1, all-go (zero_of (judged_as c.args.self.now)) _ _ _ c.loop-c.invariant.2 c.loop-c-test.true (eq-eqb _ _ (sym c.value.ensures ∙ c.if-value-ne0.false)))

pub returns : goal.returns
returns c =
    all-end (zero_of (judged_as c.args.self.now)) _ _ _ c.loop-c.invariant.2 c.loop-c-test.false
    ∙ zeroes-row c.args.self.now c.args.j _ c.requires _ _ _ c.nclus.ensures c.max-from.ensures c.min-last.ensures
