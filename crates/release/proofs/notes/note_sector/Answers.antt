use Rattle.std.proofs.Common.{ℕ, ◌*◌, sym, ◌∙◌, ap, subst, arith, map}
use Rattle.slots.specs.Slots.{refers_to}
use Rattle.file_table.specs.Files.{id_of, start_of, size_of, with_ids}
use Rattle.release.specs.Notes.{InTable, by_slot}
use Rattle.release.proofs.NoteLaws.{passes-end}
use Rattle.release.proofs.FileNotes.{files-start, files-starts, files-sizes, files-go, files-end}
use Rattle.release.proofs.notes.note_sector.Invariants.{names}
use Rattle.release.proofs.notes.note_sector.Goals as goal

pub loop-k-init : goal.loop-k-init
loop-k-init c = files-start (names c.args.waiting.now (map start_of c.args.files.now) (map size_of c.args.files.now) c.args.d.now) c.args.files.now

pub note_slot-requires : goal.note_slot-requires
note_slot-requires c = (subst (λ (n : ℕ). InTable n c.args.waiting.now) (sym c.loop-k.auto.files) c.requires.0, omega (arith, c.requires.1))

pub loop-k-preserved : goal.loop-k-preserved
loop-k-preserved c =
    let a = c.args in
    let l = c.loop-k in
    let p = names a.waiting.now (map start_of a.files.now) (map size_of a.files.now) a.d.now in
    files-go p a.files.now l.k l.files l.invariant _ (rw (files-starts p a.files.now l.k l.files l.invariant, files-sizes p a.files.now l.k l.files l.invariant) at c.note_slot.ensures)

pub returns : goal.returns
unfolding refers_to
returns c =
    let a = c.args in
    let l = c.loop-k in
    let starts = map start_of a.files.now in
    let sizes = map size_of a.files.now in
    files-end (names a.waiting.now starts sizes a.d.now) a.files.now l.k 16 l.files (omega arith) l.invariant
    ∙ ap (with_ids a.files.now) (passes-end a.waiting.now (λ j i. by_slot starts sizes a.d.now (i * 32) j) 16 (map id_of a.files.now))
