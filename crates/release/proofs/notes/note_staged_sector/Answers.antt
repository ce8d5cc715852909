use mathlib.Core.List.{List}
use mathlib.Core.Path.{◌≡◌, sym, ◌∙◌, ap}
use Prim.Native.Nat.{ℕ, ◌+◌, ◌-◌, ◌*◌, ◌%◌}
use lib.ListN.{length, take, drop, length-take, length-drop}
use native.Mathlib.Omega.{arith}
use Rattle.medium.specs.Reads.{held_block, sector_of}
use Rattle.medium.specs.MediumLaws.{block-in, block-length, sector-none, sector-held}
use Rattle.release.specs.Notes.{noted_files, listed, by_sector}
use Rattle.std.proofs.Common.{map}
use Rattle.file_table.specs.Files.{id_of, start_of, size_of}
use Rattle.release.proofs.FileNotes.{files-still}
use Rattle.release.proofs.NoteLaws.{sector-empty, not-written, held-here}
use Rattle.release.proofs.notes.note_staged_sector.Goals as goal

pub returns-then-not-test_u64 : goal.returns-then-not-test_u64
returns-then-not-test_u64 c =
    let a = c.args in
    let fs = a.files.now in
    let fat = a.fat.now in
    let area = a.area.now in
    files-still (listed a.waiting.now (by_sector (map start_of fs) (map size_of fs) (sector_of fat area a.x.now a.s))) fs
    (sector-empty a.waiting.now (map start_of fs) (map size_of fs) (map id_of fs) _ (not-written fat area a.x.now a.s (sym c.test_u64.ensures ∙ c.if-not-test_u64.true)))

pub returns-then-not-has_block : goal.returns-then-not-has_block
returns-then-not-has_block c =
    let a = c.args in
    let fs = a.files.now in
    let fat = a.fat.now in
    let area = a.area.now in
    let held = held-here a.x.now a.s (sym c.test_u64.ensures ∙ c.if-not-test_u64.false) in
    files-still (listed a.waiting.now (by_sector (map start_of fs) (map size_of fs) (sector_of fat area a.x.now a.s))) fs
    (sector-empty a.waiting.now (map start_of fs) (map size_of fs) (map id_of fs) _
    (sector-none fat area a.x.now a.s (held_block a.x.now a.s) held (sym c.has_block.ensures ∙ c.if-not-has_block.true)))

pub block-whole-requires : goal.block-whole-requires
block-whole-requires c =
    let a = c.args in
    let i = block-in a.fat.now a.area.now (held_block a.x.now a.s) (sym c.has_block.ensures ∙ c.if-not-has_block.false) in
    (i.low, i.high, i.ends)

pub slice_bounds-note_sector-end : goal.slice_bounds-note_sector-end
slice_bounds-note_sector-end c =
    let a = c.args in
    let i = block-in a.fat.now a.area.now (held_block a.x.now a.s) (sym c.has_block.ensures ∙ c.if-not-has_block.false) in
    let l : length c.block-whole.result.now ≡ 4096 = ap length c.block-whole.ensures ∙ block-length a.area.now (held_block a.x.now a.s) i in
    omega arith

pub note_sector-requires : goal.note_sector-requires
note_sector-requires c =
    let a = c.args in
    let i = block-in a.fat.now a.area.now (held_block a.x.now a.s) (sym c.has_block.ensures ∙ c.if-not-has_block.false) in
    let l : length c.block-whole.result.now ≡ 4096 = ap length c.block-whole.ensures ∙ block-length a.area.now (held_block a.x.now a.s) i in
    (c.requires.0, simp (length-take, length-drop) (omega arith))

pub returns : goal.returns
returns c =
    let a = c.args in
    let fs = a.files.now in
    let at = a.s % 8 * 512 in
    let e : at + 512 - at ≡ 512 = omega arith in
    let held = held-here a.x.now a.s (sym c.test_u64.ensures ∙ c.if-not-test_u64.false) in
    let q : take (at + 512 - at) (drop at c.block-whole.result.now) ≡ sector_of a.fat.now a.area.now a.x.now a.s =
    rw (e, c.block-whole.ensures)
    (sym (sector-held a.fat.now a.area.now a.x.now a.s (held_block a.x.now a.s) held (sym c.has_block.ensures ∙ c.if-not-has_block.false))) in
    c.note_sector.ensures ∙ ap (λ (bs : List ℕ). noted_files (listed a.waiting.now (by_sector (map start_of fs) (map size_of fs) bs)) fs) q
