use Rattle.std.proofs.Common.{◌∙◌, ap, arith, map, length, get_or}
use Rattle.file_table.specs.Files.{id_of, start_of, size_of, with_ids}
use Rattle.release.specs.Notes.{has_file}
use Rattle.release.proofs.NoteLaws.{listed-end}
use Rattle.release.proofs.FileNotes.{file-noted, files-start, files-starts, files-sizes, files-go, files-end}
use Rattle.release.proofs.notes.note_rows.Invariants.{names}
use Rattle.release.proofs.notes.note_rows.Goals as goal

pub loop-row-init : goal.loop-row-init
loop-row-init c = files-start (names (map start_of c.args.files.now) (map size_of c.args.files.now) c.args.waiting.now c.args.slot_start c.args.slot_size) c.args.files.now

pub offset_bounds-files-j : goal.offset_bounds-files-j
offset_bounds-files-j c = omega (arith, c.type_inv.waiting c.loop-row.row-index)

pub bounds-files-j : goal.bounds-files-j
bounds-files-j c = let h = c.requires c.loop-row.row-index c.loop-row-test.true in omega arith

pub offset_bounds-files-j-in-loop-row : goal.offset_bounds-files-j-in-loop-row
offset_bounds-files-j-in-loop-row c = omega (arith, c.type_inv.waiting c.loop-row.row-index)

pub loop-row-preserved : goal.loop-row-preserved
loop-row-preserved c =
    let a = c.args in
    let l = c.loop-row in
    let p = names (map start_of a.files.now) (map size_of a.files.now) a.waiting.now a.slot_start a.slot_size in
    let h = c.requires l.row-index c.loop-row-test.true in
    let q = file-noted l.files (get_or a.waiting.now l.row-index 0) a.slot_start a.slot_size c.note_row.result _ (omega arith) c.note_row.ensures in
    files-go p a.files.now l.row-index l.files l.invariant _ (rw (files-starts p a.files.now l.row-index l.files l.invariant, files-sizes p a.files.now l.row-index l.files l.invariant) at q)

pub returns : goal.returns
returns c =
    let a = c.args in
    let l = c.loop-row in
    let p = names (map start_of a.files.now) (map size_of a.files.now) a.waiting.now a.slot_start a.slot_size in
    files-end p a.files.now l.row-index (length a.waiting.now) l.files (omega arith) l.invariant
    ∙ ap (with_ids a.files.now) (listed-end a.waiting.now (has_file (map start_of a.files.now) (map size_of a.files.now) a.slot_start a.slot_size) (map id_of a.files.now))
