use mathlib.Core.Path.{sym, ◌∙◌}
use Rattle.file_table.proofs.FileRows.{same-ids, files-start, files-end}
use Rattle.staging.specs.Staging.{moved_ids}
use Rattle.staging.proofs.MoveRows.{move_row, row-set, row-left}
use Rattle.staging.proofs.moves.mark_moved.Goals.{then-becomes_moved, else-becomes_moved}
use Rattle.staging.proofs.moves.mark_moved.Goals as goal

pub returns-then-is_zero : goal.returns-then-is_zero
unfolding moved_ids
returns-then-is_zero c = simp (sym c.is_zero.ensures ∙ c.if-is_zero.true) (sym (same-ids c.args.files.now))

pub loop-j-init : goal.loop-j-init
loop-j-init c = files-start (move_row c.args.files.now c.args.written.now) c.args.files.now

pub loop-j-preserved : goal.loop-j-preserved
loop-j-preserved c =
    let l = c.loop-j in
    elim c.if-becomes_moved.branch [
      | then-becomes_moved w ↦
          let t = sym c.becomes_moved.ensures ∙ w.if-becomes_moved.true in
          rw w.files-is (row-set c.args.files.now c.args.written.now l.j l.files l.invariant c.loop-j-test.true t _ w.set_u16.ensures)
      | else-becomes_moved w ↦
          let t = sym c.becomes_moved.ensures ∙ w.if-becomes_moved.false in
          rw w.files-is (row-left c.args.files.now c.args.written.now l.j l.files l.invariant c.loop-j-test.true t)
    ]

pub returns : goal.returns
unfolding moved_ids
returns c =
    let f = move_row c.args.files.now c.args.written.now in
    simp (sym c.is_zero.ensures ∙ c.if-is_zero.false) (files-end f c.args.files.now c.loop-j.files c.loop-j.j c.loop-j.invariant c.loop-j-test.false)
