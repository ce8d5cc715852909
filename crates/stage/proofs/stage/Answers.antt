use mathlib.Core.Bool.{false}
use mathlib.Core.Path.{refl, sym, ◌∙◌}
use Rattle.state.specs.Staged.{slot_of}
use Rattle.staging.specs.Staging.{stage_in, move_id, moved_ids, stage}
use Rattle.file_table.proofs.FileRows.{same-ids}
use Rattle.stage.proofs.ApartLaws.{found-apart}
use Rattle.refusals.proofs.Numbers.{told-err, value-err}
use Rattle.stage.proofs.stage.Goals as goal

pub returns-then-busy : goal.returns-then-busy
unfolding stage
returns-then-busy c = simp c.if-busy.true (record { number = refl; changed = refl; state = refl; table = sym (same-ids c.args.files.now); medium = refl })

pub returns-in_err-changed : goal.returns-in_err-changed
unfolding stage
returns-in_err-changed c =
    let a = c.args in
    let x = stage_in a.c a.s a.written.now false a.fat.now a.area.now a.files.now in
    let m = c.in_err-changed.ensures in
    let p = c.from_residual.ensures.1 in
    simp c.if-busy.false
    (rw (found-apart x a.w.now (slot_of a.w.now.st a.c))
    (record {
      number = told-err _ _ p ∙ m.number;
      changed = value-err _ _ _ p ∙ m.changed;
      state = m.state;
      table = rw (sym m.changed) (sym (same-ids a.files.now));
      medium = m.medium;
    }))

pub returns-then-changed : goal.returns-then-changed
unfolding stage move_id moved_ids
returns-then-changed c =
    let a = c.args in
    let x = stage_in a.c a.s a.written.now false a.fat.now a.area.now a.files.now in
    let m = c.in_ok-changed.ensures in
    simp c.if-busy.false
    (rw (found-apart x a.w.now (slot_of a.w.now.st a.c))
    (record {
      number = m.number;
      changed = m.changed;
      state = m.state;
      table = rw (sym m.changed ∙ c.if-changed.true) c.mark_moved.ensures;
      medium = m.medium;
    }))

pub returns-else-changed : goal.returns-else-changed
unfolding stage
returns-else-changed c =
    let a = c.args in
    let x = stage_in a.c a.s a.written.now false a.fat.now a.area.now a.files.now in
    let m = c.in_ok-changed.ensures in
    simp c.if-busy.false
    (rw (found-apart x a.w.now (slot_of a.w.now.st a.c))
    (record {
      number = m.number;
      changed = m.changed;
      state = m.state;
      table = rw (sym m.changed ∙ c.if-changed.false) (sym (same-ids a.files.now));
      medium = m.medium;
    }))
