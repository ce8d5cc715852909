use Rattle.std.proofs.Common.{◌∙◌, sym, refl, map}
use Rattle.std.proofs.lemmas.Bool.{lt-leb, le-leb}
use Rattle.file_table.specs.Files.{id_of}
use Rattle.release.specs.Release.{files_lending, release_call}
use Rattle.release.specs.ReleaseLaws.{down, put-off, ran}
use Rattle.release.proofs.FileNotes.{files-fit, files-kept, ends-by}
use Rattle.release.proofs.release.Goals as goal

pub returns-then-files-gt-MAX_VF : goal.returns-then-files-gt-MAX_VF
returns-then-files-gt-MAX_VF c =
    let a = c.args in
    let x = files_lending a.fat.now a.area.now a.files.now in
    let f = sym (files-fit a.fat.now a.area.now a.files.now) ∙ lt-leb _ _ c.if-files-gt-MAX_VF.true in
    ends-by (release_call x a.w.now) a.files.now a.files.now _ _ _ _ _ (down x a.w.now f) (files-kept a.files.now (map id_of a.files.now) refl)

pub returns-then-is_undecided : goal.returns-then-is_undecided
returns-then-is_undecided c =
    let a = c.args in
    let x = files_lending a.fat.now a.area.now a.files.now in
    let f = sym (files-fit a.fat.now a.area.now a.files.now) ∙ le-leb _ _ c.if-files-gt-MAX_VF.false in
    let u = sym c.is_undecided.ensures ∙ c.if-is_undecided.true in
    rw c.hold_back.ensures (ends-by (release_call x a.w.now) a.files.now a.files.now _ _ _ _ _ (put-off x a.w.now f u) (files-kept a.files.now (map id_of a.files.now) refl))

pub returns : goal.returns
returns c =
    let a = c.args in
    let x = files_lending a.fat.now a.area.now a.files.now in
    let f = sym (files-fit a.fat.now a.area.now a.files.now) ∙ le-leb _ _ c.if-files-gt-MAX_VF.false in
    let u = sym c.is_undecided.ensures ∙ c.if-is_undecided.false in
    rw (ran x a.w.now f u) at c.release_all.ensures
