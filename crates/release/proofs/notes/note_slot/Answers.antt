use Rattle.std.proofs.Common.{◌∙◌, sym, ap, map}
use Rattle.file_table.specs.Files.{id_of, start_of, size_of, with_ids}
use Rattle.release.specs.Notes.{listed, by_slot}
use Rattle.release.proofs.NoteLaws.{slot-none, slot-some}
use Rattle.release.proofs.FileNotes.{files-still}
use Rattle.release.proofs.notes.note_slot.Goals as goal

pub returns-then-is_ordinary : goal.returns-then-is_ordinary
returns-then-is_ordinary c =
    let fs = c.args.files.now in
    c.note_rows.ensures
    ∙ ap (with_ids fs) (slot-some c.args.waiting.now (map start_of fs) (map size_of fs) (map id_of fs) c.args.d.now c.args.at _ _ (sym c.is_ordinary.ensures ∙ c.if-is_ordinary.true) c.start.ensures c.size.ensures)

pub returns-else-is_ordinary : goal.returns-else-is_ordinary
returns-else-is_ordinary c =
    let fs = c.args.files.now in
    files-still (listed c.args.waiting.now (by_slot (map start_of fs) (map size_of fs) c.args.d.now c.args.at)) fs
    (slot-none c.args.waiting.now (map start_of fs) (map size_of fs) (map id_of fs) c.args.d.now c.args.at (sym c.is_ordinary.ensures ∙ c.if-is_ordinary.false))
