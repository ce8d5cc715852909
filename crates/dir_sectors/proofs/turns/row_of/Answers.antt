use Prim.Native.Nat.{ℕ, ◌<◌}
use mathlib.Core.Bool.{Bool, not}
use mathlib.Core.List.{List}
use mathlib.Core.Path.{◌≡◌, sym, ◌∙◌}
use lib.ListN.{length, get_or}
use Rattle.std.specs.Prelude.{◌&&◌, eqb}
use Rattle.std.proofs.lemmas.List.{length-map}
use Rattle.loops.specs.Found.{find-start, find-go, find-stop, find-end}
use Rattle.vdisk.specs.Ids.{turned, id_dir_of}
use Rattle.file_table.specs.Files.{id_of, dir_slot_of}
use Rattle.file_table.specs.declared.VF.{VF}
use Rattle.file_table.proofs.FileRows.{column-at}
use Rattle.dir_sectors.specs.Dir.{dir_in, file_at, row_of}
use native.Mathlib.Omega.{arith}
use Rattle.dir_sectors.proofs.turns.row_of.Goals as goal

-- what a row says of its file
said : (fs : List VF) (j : ℕ) (d : VF) (k n s : ℕ) (shown written : List ℕ) (b : Bool) → j < length fs
    → b ≡ (eqb (id_dir_of (get_or fs j d).id) k && eqb (get_or fs j d).slot n && not (turned (get_or fs j d).id))
    → b ≡ file_at (dir_in fs k s shown written) n j
unfolding file_at
said fs j d k n s shown written b h e = rw (column-at id_of fs j d h, column-at dir_slot_of fs j d h) e

pub loop-j-init : goal.loop-j-init
loop-j-init c s shown written = find-start _ _

pub returns-then-is_file_at : goal.returns-then-is_file_at
unfolding row_of
returns-then-is_file_at c s shown written =
    let fs = c.args.files.now in
    let e = said fs c.loop-j.j _ _ _ s shown written _ c.loop-j-test.true c.is_file_at.ensures in
    find-stop _ _ _ _ (c.loop-j.invariant s shown written) (omega (arith, length-map fs id_of)) (sym e ∙ c.if-is_file_at.true)

pub loop-j-preserved : goal.loop-j-preserved
loop-j-preserved c s shown written =
    let fs = c.args.files.now in
    let e = said fs c.loop-j.j _ _ _ s shown written _ c.loop-j-test.true c.is_file_at.ensures in
    find-go _ _ _ _ (c.loop-j.invariant s shown written) (omega (arith, length-map fs id_of)) (sym e ∙ c.if-is_file_at.false)

pub returns : goal.returns
unfolding row_of
returns c s shown written = find-end _ _ _ _ (c.loop-j.invariant s shown written) (omega (arith, length-map c.args.files.now id_of))
