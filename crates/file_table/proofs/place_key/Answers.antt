use Rattle.file_table.specs.TableLaws.{place_key}
use Rattle.file_table.proofs.place_key.Goals as goal

pub returns : goal.returns
unfolding place_key
returns c = simp (← c.id_dir.ensures)
