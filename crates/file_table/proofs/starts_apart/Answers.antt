use Prim.Native.Nat.{◌+◌, ◌-◌}
use mathlib.Core.Path.{◌≡◌, ◌∙◌}
use Rattle.std.proofs.lemmas.List.{length-map}
use lib.ListN.{get_or}
use Rattle.vdisk.specs.DriveLaws.{clusters_of-le}
use Rattle.loops.specs.Loops.{all-go, all-stop, all-end}
use Rattle.file_table.specs.Files.{start_of}
use Rattle.file_table.specs.TableLaws.{starts_apart-near}
use Rattle.file_table.proofs.RowLaws.{any_file, ends-late, ends-early}
use native.Mathlib.Omega.{arith}
use Rattle.file_table.proofs.starts_apart.Goals as goal

pub overflow_add-end : goal.overflow_add-end
overflow_add-end c = omega (arith, c.nclus.ensures, clusters_of-le (get_or c.args.files.now (c.loop-j.j - 1) any_file).vsize (omega arith))

pub returns-then-files-j : goal.returns-then-files-j
returns-then-files-j c =
    let fs = c.args.files.now in
    let n = length-map fs start_of in
    let e = ends-late fs c.loop-j.j _ (omega arith) (omega arith) _ c.nclus.ensures c.if-files-j.true in
    all-stop _ _ _ _ c.loop-j.invariant (omega arith) e ∙ starts_apart-near _ _ c.requires

pub loop-j-preserved : goal.loop-j-preserved
loop-j-preserved c =
    let fs = c.args.files.now in
    let j = c.loop-j.j in
    let n = length-map fs start_of in
    let r : j + 1 - 1 ≡ j - 1 + 1 = omega arith in
    let e = ends-early fs j _ (omega arith) (omega arith) _ c.nclus.ensures c.if-files-j.false in
    rw r (all-go _ _ _ _ c.loop-j.invariant (omega arith) e)

pub returns : goal.returns
returns c = all-end _ _ _ _ c.loop-j.invariant (omega (arith, length-map c.args.files.now start_of)) ∙ starts_apart-near _ _ c.requires
