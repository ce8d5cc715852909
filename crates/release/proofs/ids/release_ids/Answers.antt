use Rattle.std.proofs.Common.{◌∙◌}
use Rattle.release.proofs.FileNotes.{files-released}
use Rattle.release.proofs.ids.release_ids.Goals as goal

pub returns : goal.returns
returns c = c.settle_ids.ensures ∙ files-released c.args.fat.now c.args.area.now c.args.st.now c.args.files.now _ c.note_staged.ensures
