use mathlib.Core.Path.{◌≡◌}
use lib.ListN.{length}
use Rattle.file_table.specs.Table.{max_files}
use Rattle.file_table.proofs.ColumnLaws.{Filled}
use Rattle.file_table.proofs.columns.columns_ok.Given as goal

abbrev pub invariant-loop-j : goal.invariant-loop-j
invariant-loop-j l = Filled l.ids l.slots l.starts l.sizes l.files l.j × (length l.files ≡ max_files)
