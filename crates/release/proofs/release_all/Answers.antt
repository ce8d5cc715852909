use Rattle.std.proofs.Common.{◌∙◌, sym, refl, map}
use Rattle.std.proofs.lemmas.Bool.{lt-leb, le-leb}
use Rattle.file_table.specs.Files.{id_of}
use Rattle.release.specs.Release.{files_lending, release_all_call}
use Rattle.release.specs.ReleaseLaws.{all-down, all-ran}
use Rattle.release.proofs.FileNotes.{files-fit, files-kept, ends-by}
use Rattle.release.proofs.release_all.Goals as goal

pub returns-then-files-gt-MAX_VF : goal.returns-then-files-gt-MAX_VF
returns-then-files-gt-MAX_VF c =
    let a = c.args in
    let x = files_lending a.fat.now a.area.now a.files.now in
    let f = sym (files-fit a.fat.now a.area.now a.files.now) ∙ lt-leb _ _ c.if-files-gt-MAX_VF.true in
    ends-by (release_all_call x a.w.now a.reset) a.files.now a.files.now _ _ _ _ _ (all-down x a.w.now a.reset f) (files-kept a.files.now (map id_of a.files.now) refl)

pub release_ids-requires : goal.release_ids-requires
release_ids-requires c = c.if-files-gt-MAX_VF.false

pub returns : goal.returns
returns c =
    let a = c.args in
    let x = files_lending a.fat.now a.area.now a.files.now in
    let f = sym (files-fit a.fat.now a.area.now a.files.now) ∙ le-leb _ _ c.if-files-gt-MAX_VF.false in
    rw (c.had_any-had.ensures, c.settle_state.ensures) (ends-by (release_all_call x a.w.now a.reset) a.files.now _ _ _ _ _ _ (all-ran x a.w.now a.reset f) c.release_ids.ensures)
