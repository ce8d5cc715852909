use Rattle.std.proofs.Common.{refl, true, Err}
use Rattle.refusals.proofs.Numbers.{refused}
use Rattle.release.specs.Release.{files_lending, release_all_call, answered}
use Rattle.release.proofs.FileNotes.{ends-by, leaves-of, answered-err}
use Rattle.sessions.specs.Sessions.{bus_reset_call}
use Rattle.sessions.specs.SessionLaws.{reset-down, reset-ran}
use Rattle.sessions.proofs.mode.on_bus_reset.Goals as goal

pub returns-in_err-ended : goal.returns-in_err-ended
returns-in_err-ended c =
    let a = c.args in
    let x = files_lending a.fat.now a.area.now a.files.now in
    let e = c.in_err-ended.field-0.0 in
    let q = c.in_err-ended.ensures in
    let l = leaves-of (release_all_call x a.w.now true) a.files.now c.release_all.new.files (answered (Err e)) c.release_all.new.w q in
    rw (answered-err c.from_residual.result e c.from_residual.ensures.1) (ends-by (bus_reset_call x a.w.now) a.files.now _ _ _ _ _ _ (reset-down x a.w.now _ _ _ _ _ l (refused e)) q.2)

pub returns : goal.returns
returns c =
    let a = c.args in
    let x = files_lending a.fat.now a.area.now a.files.now in
    let q = c.in_ok-ended.ensures in
    let l = leaves-of (release_all_call x a.w.now true) a.files.now c.release_all.new.files _ c.release_all.new.w q in
    rw c.mode_reset.ensures (ends-by (bus_reset_call x a.w.now) a.files.now _ _ _ _ _ _ (reset-ran x a.w.now _ _ _ _ _ l refl) q.2)
