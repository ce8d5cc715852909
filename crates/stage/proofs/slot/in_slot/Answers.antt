use mathlib.Core.Path.{refl, sym, ◌∙◌}
use Rattle.staging.specs.Staging.{in_slot}
use Rattle.stage.specs.Meets.{slot_write}
use Rattle.stage.proofs.ApartLaws.{started-medium}
use Rattle.refusals.proofs.Numbers.{told-err, value-err}
use Rattle.stage.proofs.slot.in_slot.Goals as goal

pub returns-then-same_parked : goal.returns-then-same_parked
unfolding in_slot
returns-then-same_parked c =
    simp (sym c.same_parked.ensures ∙ c.if-same_parked.true) (record { number = refl; changed = refl; state = refl; medium = refl })

pub returns-in_err-on_medium : goal.returns-in_err-on_medium
unfolding in_slot
returns-in_err-on_medium c =
    let a = c.args in
    let m = c.in_err-on_medium.ensures in
    let p = c.from_residual.ensures.1 in
    simp (sym c.same_parked.ensures ∙ c.if-same_parked.false)
    (rw (started-medium (slot_write a.s a.written.now a.fat.now a.area.now) a.w.now _ a.i c.start_staging.ensures)
    (record { number = told-err _ _ p ∙ m.number; changed = value-err _ _ _ p ∙ m.changed; state = m.state; medium = m.medium }))

pub returns : goal.returns
unfolding in_slot
returns c =
    let a = c.args in
    simp (sym c.same_parked.ensures ∙ c.if-same_parked.false)
    (rw (started-medium (slot_write a.s a.written.now a.fat.now a.area.now) a.w.now _ a.i c.start_staging.ensures) c.in_ok-on_medium.ensures)
