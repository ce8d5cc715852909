use mathlib.Core.Path.{sym, ◌∙◌}
use mathlib.Core.List.{map}
use Rattle.file_table.specs.Files.{id_of, start_of, size_of}
use Rattle.file_table.proofs.FileRows.{same-ids}
use Rattle.clusters.specs.Clusters.{host_cluster}
use Rattle.judge.specs.Classify.{cluster, unless_shown, other_data}
use Rattle.judge.proofs.PassLaws.{passes, stops, stopped-by, data-refused}
use Rattle.judge.proofs.data.file_cluster.Goals as goal

pub returns-in-Ok : goal.returns-in-Ok
unfolding cluster
returns-in-Ok c =
    let e = passes _ _ (data-refused _) c.in-Ok.ensures in
    let b = c.stage.ensures in
    record { number = simp e b.number; changed = simp e b.changed; state = simp e b.state; table = simp e b.table; medium = simp e b.medium }

pub returns-then-not-same : goal.returns-then-not-same
unfolding cluster unless_shown other_data
returns-then-not-same c =
    let a = c.args in
    let fs = a.files.now in
    let host = host_cluster (map id_of fs) (map start_of fs) (map size_of fs) a.w.now.first a.w.now.pair a.c in
    let h = stops host _ _ c.in-Err.ensures in
    let q = sym c.same.ensures ∙ c.if-not-same.true in
    record { number = simp (h, q) (stopped-by host _ _ c.in-Err.ensures); changed = simp (h, q); state = simp (h, q); table = simp (h, q) (sym (same-ids _)); medium = simp (h, q) }

pub returns-else-not-same : goal.returns-else-not-same
unfolding cluster unless_shown other_data
returns-else-not-same c =
    let a = c.args in
    let fs = a.files.now in
    let host = host_cluster (map id_of fs) (map start_of fs) (map size_of fs) a.w.now.first a.w.now.pair a.c in
    let h = stops host _ _ c.in-Err.ensures in
    let q = sym c.same.ensures ∙ c.if-not-same.false in
    record { number = simp (h, q); changed = simp (h, q); state = simp (h, q); table = simp (h, q) (sym (same-ids _)); medium = simp (h, q) }
