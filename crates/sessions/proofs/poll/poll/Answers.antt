use Rattle.std.proofs.Common.{sym, ◌∙◌, refl, map}
use Rattle.std.proofs.lemmas.Bool.{lt-leb, le-leb}
use Rattle.file_table.specs.Files.{id_of}
use Rattle.state.specs.Setters.{with_end_at}
use Rattle.release.specs.Release.{files_lending}
use Rattle.release.proofs.FileNotes.{files-fit, files-kept, ends-by}
use Rattle.sessions.specs.Poll.{poll_call}
use Rattle.sessions.specs.PollLaws.{poll-down, poll-dropped, poll-ended, poll-quiet, poll-kept}
use Rattle.sessions.proofs.poll.poll.Goals as goal

pub returns-then-files-gt-MAX_VF : goal.returns-then-files-gt-MAX_VF
returns-then-files-gt-MAX_VF c =
    let a = c.args in
    let x = files_lending a.fat.now a.area.now a.files.now in
    let f = sym (files-fit a.fat.now a.area.now a.files.now) ∙ lt-leb _ _ c.if-files-gt-MAX_VF.true in
    ends-by (poll_call x a.w.now a.clock a.mounted) a.files.now a.files.now _ _ _ _ _ (poll-down x a.w.now a.clock a.mounted f) (files-kept a.files.now (map id_of a.files.now) refl)

pub returns-then-mounted : goal.returns-then-mounted
unfolding with_end_at
returns-then-mounted c =
    let a = c.args in
    let x = files_lending a.fat.now a.area.now a.files.now in
    let f = sym (files-fit a.fat.now a.area.now a.files.now) ∙ le-leb _ _ c.if-files-gt-MAX_VF.false in
    ends-by (poll_call x a.w.now a.clock a.mounted) a.files.now a.files.now _ _ _ _ _
    (poll-dropped x a.w.now a.clock a.mounted c.tick.new.w c.tick.ensures f (sym c.end_due.ensures ∙ c.if-end_due.true) c.if-mounted.true)
    (files-kept a.files.now (map id_of a.files.now) refl)

pub returns-then-end_due : goal.returns-then-end_due
unfolding with_end_at
returns-then-end_due c =
    let a = c.args in
    let x = files_lending a.fat.now a.area.now a.files.now in
    let f = sym (files-fit a.fat.now a.area.now a.files.now) ∙ le-leb _ _ c.if-files-gt-MAX_VF.false in
    let e = poll-ended x a.w.now a.clock a.mounted c.tick.new.w c.tick.ensures f (sym c.end_due.ensures ∙ c.if-end_due.true) c.if-mounted.false in
    rw e at c.release_all.ensures

pub returns-then-is_quiet : goal.returns-then-is_quiet
returns-then-is_quiet c =
    let a = c.args in
    let x = files_lending a.fat.now a.area.now a.files.now in
    let f = sym (files-fit a.fat.now a.area.now a.files.now) ∙ le-leb _ _ c.if-files-gt-MAX_VF.false in
    let e = poll-quiet x a.w.now a.clock a.mounted c.tick.new.w c.tick.ensures f (sym c.end_due.ensures ∙ c.if-end_due.false) (sym c.is_quiet.ensures ∙ c.if-is_quiet.true) in
    rw e at c.release.ensures

pub returns : goal.returns
returns c =
    let a = c.args in
    let x = files_lending a.fat.now a.area.now a.files.now in
    let f = sym (files-fit a.fat.now a.area.now a.files.now) ∙ le-leb _ _ c.if-files-gt-MAX_VF.false in
    ends-by (poll_call x a.w.now a.clock a.mounted) a.files.now a.files.now _ _ _ _ _
    (poll-kept x a.w.now a.clock a.mounted c.tick.new.w c.tick.ensures f (sym c.end_due.ensures ∙ c.if-end_due.false) (sym c.is_quiet.ensures ∙ c.if-is_quiet.false))
    (files-kept a.files.now (map id_of a.files.now) refl)
