use mathlib.Core.Path.{sym, ◌∙◌}
use native.Mathlib.Omega.{arith}
use Rattle.std.proofs.lemmas.List.{length-map}
use Rattle.vdisk.specs.OwnerLaws.{owner-is}
use Rattle.file_table.specs.Files.{start_of}
use Rattle.clusters.specs.Clusters.{host_cluster, host_own}
use Rattle.judge.specs.Classify.{data_number}
use Rattle.judge.proofs.data.host_data.Goals as goal

pub returns-in-Reserved : goal.returns-in-Reserved
unfolding host_cluster host_own data_number
returns-in-Reserved c =
    let e = rw (c.by_rows.ensures.same_rows, c.by_rows.ensures.same_first) at (sym c.owner.ensures ∙ c.in-Reserved.is) in
    simp e

pub returns-in-Fixed : goal.returns-in-Fixed
unfolding host_cluster host_own data_number
returns-in-Fixed c =
    let e = rw (c.by_rows.ensures.same_rows, c.by_rows.ensures.same_first) at (sym c.owner.ensures ∙ c.in-Fixed.is) in
    simp e

pub ours_live-requires : goal.ours_live-requires
ours_live-requires c =
    let e = rw (c.by_rows.ensures.same_rows, c.by_rows.ensures.same_first) at (sym c.owner.ensures ∙ c.in-Dyn.is) in
    omega (arith, (owner-is _ _ _ _ _ e).row, length-map c.args.files.now start_of)

pub returns-then-ours_live : goal.returns-then-ours_live
unfolding host_cluster host_own data_number
returns-then-ours_live c =
    let e = rw (c.by_rows.ensures.same_rows, c.by_rows.ensures.same_first) at (sym c.owner.ensures ∙ c.in-Dyn.is) in
    simp (e, sym c.ours_live.ensures ∙ c.if-ours_live.true)

pub returns-else-ours_live : goal.returns-else-ours_live
unfolding host_cluster host_own data_number
returns-else-ours_live c =
    let e = rw (c.by_rows.ensures.same_rows, c.by_rows.ensures.same_first) at (sym c.owner.ensures ∙ c.in-Dyn.is) in
    simp (e, sym c.ours_live.ensures ∙ c.if-ours_live.false)

pub returns-in-Free : goal.returns-in-Free
unfolding host_cluster host_own data_number
returns-in-Free c =
    let e = rw (c.by_rows.ensures.same_rows, c.by_rows.ensures.same_first) at (sym c.owner.ensures ∙ c.in-Free.is) in
    simp e
