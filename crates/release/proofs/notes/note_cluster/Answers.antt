use Rattle.std.proofs.Common.{ℕ, sym, ◌∙◌, ap, subst, arith, map}
use borrow.Author.Tests.{ne_eqb}
use Rattle.medium.specs.Reads.{sector_of}
use Rattle.file_table.specs.Files.{id_of, start_of, size_of, with_ids}
use Rattle.release.specs.Notes.{InTable, listed, by_sector, by_cluster}
use Rattle.release.proofs.NoteLaws.{passes-end, cluster-none, cluster-some}
use Rattle.release.proofs.FileNotes.{files-still, files-start, files-starts, files-sizes, files-go, files-end}
use Rattle.release.proofs.notes.note_cluster.Invariants.{names}
use Rattle.release.proofs.notes.note_cluster.Goals as goal

pub returns-then-x-eq0 : goal.returns-then-x-eq0
returns-then-x-eq0 c =
    let a = c.args in
    let fs = a.files.now in
    files-still (listed a.waiting.now (by_cluster (map start_of fs) (map size_of fs) a.fat.now a.area.now a.x.now)) fs
    (cluster-none a.waiting.now (map start_of fs) (map size_of fs) (map id_of fs) a.fat.now a.area.now a.x.now c.if-x-eq0.true)

pub loop-s-init : goal.loop-s-init
loop-s-init c = files-start (names c.args.waiting.now (map start_of c.args.files.now) (map size_of c.args.files.now) c.args.fat.now c.args.area.now c.args.x.now) c.args.files.now

pub note_staged_sector-requires : goal.note_staged_sector-requires
note_staged_sector-requires c = (subst (λ (n : ℕ). InTable n c.args.waiting.now) (sym c.loop-s.auto.files) c.requires, omega arith)

pub loop-s-preserved : goal.loop-s-preserved
loop-s-preserved c =
    let a = c.args in
    let l = c.loop-s in
    let p = names a.waiting.now (map start_of a.files.now) (map size_of a.files.now) a.fat.now a.area.now a.x.now in
    files-go p a.files.now l.s l.files l.invariant _ (rw (files-starts p a.files.now l.s l.files l.invariant, files-sizes p a.files.now l.s l.files l.invariant) at c.note_staged_sector.ensures)

pub returns : goal.returns
returns c =
    let a = c.args in
    let l = c.loop-s in
    let ids = map id_of a.files.now in
    let starts = map start_of a.files.now in
    let sizes = map size_of a.files.now in
    files-end (names a.waiting.now starts sizes a.fat.now a.area.now a.x.now) a.files.now l.s 64 l.files (omega arith) l.invariant
    ∙ ap (with_ids a.files.now) (passes-end a.waiting.now (λ j s. by_sector starts sizes (sector_of a.fat.now a.area.now a.x.now s) j) 64 ids
    ∙ cluster-some a.waiting.now starts sizes ids a.fat.now a.area.now a.x.now (ne_eqb _ _ c.if-x-eq0.false))
