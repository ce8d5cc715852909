use Rattle.state.specs.Setters.{with_staging, with_hint, with_stage_t}
use Rattle.staging.specs.Staging.{start_staging}
use Rattle.stage.proofs.slot.start_staging.Goals.{then-not-w, else-not-w}
use Rattle.stage.proofs.slot.start_staging.Goals as goal

pub returns : goal.returns
unfolding start_staging with_staging with_hint with_stage_t
returns c =
    elim c.if-not-w.branch [
      | then-not-w w ↦ rw w.w-is (simp w.if-not-w.true)
      | else-not-w w ↦ rw w.w-is (simp w.if-not-w.false)
    ]
