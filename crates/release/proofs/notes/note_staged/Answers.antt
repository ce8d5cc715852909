use lib.Seq.{length-take-le}
use Rattle.std.proofs.Common.{ℕ, List, sym, ◌∙◌, ap, subst, arith, map, length, get_or, take}
use Rattle.state.specs.State.{max_slots, no_st}
use Rattle.medium.specs.Reads.{moved_ref}
use Rattle.std.proofs.lemmas.List.{length-map}
use Rattle.file_table.specs.Files.{id_of, start_of, size_of, with_ids}
use Rattle.release.specs.Notes.{noted, InTable, listed, by_cluster, by_staged}
use Rattle.release.proofs.NoteLaws.{passes-end}
use Rattle.release.proofs.FileNotes.{files-still, files-start, files-starts, files-sizes, files-go, files-end}
use Rattle.release.proofs.WaitLaws.{waiters-in, waiters-noted, none-waits}
use Rattle.release.proofs.notes.note_staged.Invariants.{names}
use Rattle.release.proofs.notes.note_staged.Goals as goal

pub list_waiting-w-requires : goal.list_waiting-w-requires
list_waiting-w-requires c = c.requires

pub returns-then-n-eq0 : goal.returns-then-n-eq0
returns-then-n-eq0 c =
    let fs = c.args.files.now in
    let named = by_staged (map start_of fs) (map size_of fs) c.args.fat.now c.args.area.now c.args.st.now in
    files-still named fs (none-waits named (map id_of fs) (ap (λ (k : ℕ). take k c.list_waiting-w.result.rows) (sym c.if-n-eq0.true) ∙ c.list_waiting-w.ensures.1))

pub loop-x-init : goal.loop-x-init
loop-x-init c =
    let fs = c.args.files.now in
    files-start (names (take c.list_waiting-w.result.n c.list_waiting-w.result.rows) (map start_of fs) (map size_of fs) c.args.fat.now c.args.area.now c.args.st.now) fs

pub slice_bounds-waiting-end : goal.slice_bounds-waiting-end
slice_bounds-waiting-end c = c.list_waiting-w.ensures.0

pub slice_bounds-note_cluster-end : goal.slice_bounds-note_cluster-end
slice_bounds-note_cluster-end c = sym (length-take-le c.list_waiting-w.result.n c.list_waiting-w.result.rows c.list_waiting-w.ensures.0)

pub note_cluster-requires : goal.note_cluster-requires
note_cluster-requires c =
    let rows = take c.list_waiting-w.result.n c.list_waiting-w.result.rows in
    let ids = map id_of c.args.files.now in
    subst (λ (m : ℕ). InTable m rows) (length-map c.args.files.now id_of ∙ sym c.loop-x.auto.files) (subst (InTable (length ids)) (sym c.list_waiting-w.ensures.1) (waiters-in ids))

pub loop-x-preserved : goal.loop-x-preserved
loop-x-preserved c =
    let a = c.args in
    let l = c.loop-x in
    let p = names (take c.list_waiting-w.result.n c.list_waiting-w.result.rows) (map start_of a.files.now) (map size_of a.files.now) a.fat.now a.area.now a.st.now in
    files-go p a.files.now l.x-index l.files l.invariant _ (rw (
      files-starts p a.files.now l.x-index l.files l.invariant,
      files-sizes p a.files.now l.x-index l.files l.invariant,
    ) at c.note_cluster.ensures)

pub returns : goal.returns
unfolding moved_ref
returns c =
    let a = c.args in
    let l = c.loop-x in
    let rows = take c.list_waiting-w.result.n c.list_waiting-w.result.rows in
    let ids = map id_of a.files.now in
    let starts = map start_of a.files.now in
    let sizes = map size_of a.files.now in
    let named = by_staged starts sizes a.fat.now a.area.now a.st.now in
    files-end (names rows starts sizes a.fat.now a.area.now a.st.now) a.files.now l.x-index max_slots l.files (omega arith) l.invariant
    ∙ ap (with_ids a.files.now)
    (passes-end rows (λ j i. by_cluster starts sizes a.fat.now a.area.now (get_or a.st.now i no_st) j) max_slots ids
    ∙ ap (λ (rs : List ℕ). noted (listed rs named) ids) c.list_waiting-w.ensures.1
    ∙ waiters-noted named ids)
