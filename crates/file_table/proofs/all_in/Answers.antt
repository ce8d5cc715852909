use mathlib.Core.Path.{sym, ◌∙◌}
use Rattle.std.proofs.lemmas.List.{length-map}
use lib.ListN.{get_or}
use Rattle.vdisk.specs.DriveLaws.{clusters_of-le}
use Rattle.loops.specs.Loops.{all-start, all-go, all-stop, all-end}
use Rattle.file_table.specs.Files.{start_of}
use Rattle.file_table.specs.Table.{all_in}
use Rattle.file_table.proofs.RowLaws.{any_file, file-in}
use native.Mathlib.Omega.{arith}
use Rattle.file_table.proofs.all_in.Goals as goal

pub loop-f-init : goal.loop-f-init
loop-f-init c = all-start _ _

pub clusters_in-requires : goal.clusters_in-requires
clusters_in-requires c = (omega arith, omega (arith, c.nclus-n.ensures, clusters_of-le (get_or c.args.files.now c.loop-f.f-index any_file).vsize (omega arith)))

pub returns-then-not-clusters_in : goal.returns-then-not-clusters_in
unfolding all_in
returns-then-not-clusters_in c =
    let fs = c.args.files.now in
    let e = file-in fs c.loop-f.f-index _ c.loop-f-test.true c.args.first _ _ c.nclus-n.ensures (sym c.clusters_in.ensures ∙ c.if-not-clusters_in.true) in
    all-stop _ _ _ _ c.loop-f.invariant (omega (arith, length-map fs start_of)) e

pub loop-f-preserved : goal.loop-f-preserved
loop-f-preserved c =
    let fs = c.args.files.now in
    let e = file-in fs c.loop-f.f-index _ c.loop-f-test.true c.args.first _ _ c.nclus-n.ensures (sym c.clusters_in.ensures ∙ c.if-not-clusters_in.false) in
    all-go _ _ _ _ c.loop-f.invariant (omega (arith, length-map fs start_of)) e

pub returns : goal.returns
unfolding all_in
returns c = all-end _ _ _ _ c.loop-f.invariant (omega (arith, length-map c.args.files.now start_of))
