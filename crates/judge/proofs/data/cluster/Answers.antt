use mathlib.Core.Path.{sym, ◌∙◌}
use Rattle.file_table.proofs.FileRows.{same-ids}
use Rattle.judge.specs.Classify.{cluster, unless_shown, dir}
use Rattle.judge.proofs.data.cluster.Goals as goal

pub returns-in_default : goal.returns-in_default
unfolding cluster
returns-in_default c = let e = sym c.dir_kind.ensures ∙ c.in_default.is in let b = c.file_cluster.ensures in
    record { number = simp e b.number; changed = simp e b.changed; state = simp e b.state; table = simp e b.table; medium = simp e b.medium }

pub returns-then-same : goal.returns-then-same
unfolding cluster unless_shown
returns-then-same c = let e = sym c.dir_kind.ensures ∙ c.in-Some.is in let q = sym c.same.ensures ∙ c.if-same.true in
    record { number = simp (e, q); changed = simp (e, q); state = simp (e, q); table = simp (e, q) (sym (same-ids _)); medium = simp (e, q) }

pub returns : goal.returns
unfolding cluster unless_shown dir
returns c = let e = sym c.dir_kind.ensures ∙ c.in-Some.is in let q = sym c.same.ensures ∙ c.if-same.false in let b = c.dir.ensures in
    record { number = simp (e, q) b.number; changed = simp (e, q) b.changed; state = simp (e, q); table = simp (e, q) b.table; medium = simp (e, q) }
