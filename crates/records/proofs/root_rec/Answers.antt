use mathlib.Core.Path.{sym, ◌∙◌}
use native.Mathlib.Omega.{arith}
use Rattle.records.specs.Records.{root_rec, root_rec_at}
use Rattle.records.specs.RecordLaws.{rec_idx-lt}
use Rattle.records.proofs.root_rec.Goals as goal

pub returns-in_err-i-clause-found : goal.returns-in_err-i-clause-found
unfolding root_rec root_rec_at
returns-in_err-i-clause-found c = simp (c.from_residual.ensures, sym c.rec_idx.ensures ∙ c.in_err-i.was)

pub returns-in_err-i-clause-bytes : goal.returns-in_err-i-clause-bytes
unfolding root_rec root_rec_at
returns-in_err-i-clause-bytes c = simp (c.from_residual.ensures, sym c.rec_idx.ensures ∙ c.in_err-i.was)

pub offset_bounds-rec-i : goal.offset_bounds-rec-i
offset_bounds-rec-i c = omega (arith, rec_idx-lt _ _ _ (sym c.rec_idx.ensures ∙ c.in_ok-i.was))

pub bounds-rec-i : goal.bounds-rec-i
bounds-rec-i c = rec_idx-lt _ _ _ (sym c.rec_idx.ensures ∙ c.in_ok-i.was)

pub returns-clause-found : goal.returns-clause-found
unfolding root_rec root_rec_at
returns-clause-found c = simp (sym c.rec_idx.ensures ∙ c.in_ok-i.was)

pub returns-clause-bytes : goal.returns-clause-bytes
unfolding root_rec root_rec_at
returns-clause-bytes c = simp (sym c.rec_idx.ensures ∙ c.in_ok-i.was)
