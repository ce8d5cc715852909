use Prim.Native.Nat.{ℕ, ◌<◌}
use mathlib.Core.List.{List, map}
use mathlib.Core.Path.{◌≡◌, sym, ap, ◌∙◌}
use lib.ListN.{length, get_or, take}
use Rattle.std.specs.Prelude.{eqb}
use Rattle.loops.specs.Loops.{pick}
use Rattle.loops.specs.Rows.{rows}
use Rattle.bits.specs.Bit.{set_bit}
use Rattle.file_table.specs.Files.{id_of, start_of, size_of, with_ids}
use Rattle.file_table.specs.declared.VF.{VF}
use Rattle.file_table.proofs.FileRows.{column-at, files-read, files-more}
use Rattle.state.specs.declared.w.St.{St}
use Rattle.medium.specs.Reads.{moved_ref}
use Rattle.dir_sectors.specs.Turned.{mark_id}
use Rattle.dir_sectors.proofs.MarkLaws.{rows-before, rows-past}
use native.Mathlib.Omega.{arith}
use Rattle.dir_sectors.proofs.marks.mark_rows.Goals as goal

-- a row is marked by its start and size, which no mark changes
marked : (marks fat area : List ℕ) (st : List St) (fs gs : List VF) (j : ℕ) (d : VF) (v : ℕ)
    → gs ≡ with_ids fs (take j (rows (mark_id marks (map start_of fs) (map size_of fs) fat area st) (map id_of fs))) → j < length fs
    → v ≡ pick (eqb (get_or marks j 0) 1)
    (pick (moved_ref fat area st (get_or gs j d).vstart (get_or gs j d).vsize) (set_bit (set_bit (get_or gs j d).id 12) 15) (set_bit (get_or gs j d).id 12))
    (get_or gs j d).id
    → v ≡ mark_id marks (map start_of fs) (map size_of fs) fat area st j (get_or gs j d).id
unfolding mark_id
marked marks fat area st fs gs j d v inv l e =
    let r = files-read (mark_id marks (map start_of fs) (map size_of fs) fat area st) fs gs j inv d in
    let a : get_or (map start_of fs) j 0 ≡ (get_or gs j d).vstart = column-at start_of fs j d l ∙ ap start_of (sym r) in
    let b : get_or (map size_of fs) j 0 ≡ (get_or gs j d).vsize = column-at size_of fs j d l ∙ ap size_of (sym r) in
    rw (a, b) e

-- a row that isn't marked stays
unmarked : (marks starts sizes fat area : List ℕ) (st : List St) (j id : ℕ) → get_or marks j 0 ≡ 0 → mark_id marks starts sizes fat area st j id ≡ id
unfolding mark_id
unmarked marks starts sizes fat area st j id e = rw e

pub loop-j-init : goal.loop-j-init
loop-j-init c =
    let a = c.args in
    let f = mark_id a.rows.now (map start_of a.files.now) (map size_of a.files.now) a.fat.now a.area.now a.st.now in
    rows-before f a.files.now a.from
    (λ j id l. unmarked a.rows.now (map start_of a.files.now) (map size_of a.files.now) a.fat.now a.area.now a.st.now j id (c.requires.1 j l))

pub loop-j-preserved : goal.loop-j-preserved
loop-j-preserved c =
    let a = c.args in
    let l = c.loop-j in
    let f = mark_id a.rows.now (map start_of a.files.now) (map size_of a.files.now) a.fat.now a.area.now a.st.now in
    files-more f a.files.now l.files l.j l.invariant _ _ (marked a.rows.now a.fat.now a.area.now a.st.now a.files.now l.files l.j _ _ l.invariant (omega arith) c.turned_id.ensures) (omega arith)

pub returns : goal.returns
returns c =
    let a = c.args in
    let f = mark_id a.rows.now (map start_of a.files.now) (map size_of a.files.now) a.fat.now a.area.now a.st.now in
    rows-past f a.files.now c.loop-j.files c.loop-j.j c.loop-j.invariant
    (λ j id l h. unmarked a.rows.now (map start_of a.files.now) (map size_of a.files.now) a.fat.now a.area.now a.st.now j id (c.requires.2 j (omega arith)))
