use mathlib.Core.Path.{sym, ◌∙◌, ap}
use mathlib.Core.Bool.{not}
use native.Mathlib.Omega.{arith}
use Rattle.std.proofs.lemmas.List.{length-map}
use Rattle.vdisk.specs.OwnerLaws.{owner-is}
use Rattle.file_table.specs.Files.{start_of}
use Rattle.clusters.specs.Clusters.{host_cluster, host_own}
use Rattle.clusters.proofs.host_cluster.Goals as goal

pub ours_live-requires : goal.ours_live-requires
ours_live-requires c = omega (arith, (owner-is _ _ _ _ _ (sym c.owner.ensures ∙ c.in-Dyn.is)).row, length-map c.args.files.now.rows.now start_of)

pub returns-in-Reserved : goal.returns-in-Reserved
unfolding host_cluster host_own
returns-in-Reserved c = simp (sym c.owner.ensures ∙ c.in-Reserved.is)

pub returns-in-Fixed : goal.returns-in-Fixed
unfolding host_cluster host_own
returns-in-Fixed c = simp (sym c.owner.ensures ∙ c.in-Fixed.is)

pub returns-in-Dyn : goal.returns-in-Dyn
unfolding host_cluster host_own
returns-in-Dyn c = simp (sym c.owner.ensures ∙ c.in-Dyn.is) (ap not c.ours_live.ensures)

pub returns-in-Free : goal.returns-in-Free
unfolding host_cluster host_own
returns-in-Free c = simp (sym c.owner.ensures ∙ c.in-Free.is)
