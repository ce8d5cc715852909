use mathlib.Core.Path.{◌∙◌, ap}
use Rattle.vdisk.specs.Ids.{id_dir_of, dir_of}
use Rattle.vdisk.proofs.ids.id_dir.Goals as goal

pub returns : goal.returns
unfolding id_dir_of
returns c = c.dir.ensures ∙ ap dir_of c.kind.ensures
