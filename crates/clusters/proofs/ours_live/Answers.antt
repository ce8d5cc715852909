use mathlib.Core.Path.{sym, ◌∙◌}
use Rattle.file_table.specs.Files.{id_of}
use Rattle.file_table.proofs.FileRows.{column-at}
use Rattle.file_table.proofs.RowLaws.{any_file}
use Rattle.clusters.specs.Clusters.{is_live}
use Rattle.clusters.proofs.Nothing.{nothing-of}
use Rattle.clusters.proofs.ours_live.Goals as goal

pub returns-then-test_u16 : goal.returns-then-test_u16
unfolding is_live
returns-then-test_u16 c = simp (column-at id_of c.args.files.now c.args.j any_file c.requires, sym c.test_u16.ensures ∙ c.if-test_u16.true)

pub returns : goal.returns
unfolding is_live
returns c = simp (column-at id_of c.args.files.now c.args.j any_file c.requires, sym c.test_u16.ensures ∙ c.if-test_u16.false, ← c.pair_idx.ensures) (nothing-of _ _ c.is_none.ensures)
