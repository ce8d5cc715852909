use mathlib.Core.Path.{sym, ap, ◌∙◌}
use Rattle.std.proofs.Common.{ne_eqb}
use Rattle.loops.specs.Choices.{and-no}
use Rattle.refusals.specs.Refusals.{told}
use Rattle.refusals.proofs.Numbers.{told-err}
use Rattle.write.specs.Write.{whole_sectors}
use Rattle.write.specs.WriteLaws.{not-whole, not-fit, judged, many-unfit, few-fit, both-whole, part-shown, part-written, turned-down, settled-as}
use Rattle.write.proofs.write.Goals as goal

pub returns-in_default : goal.returns-in_default
unfolding whole_sectors
returns-in_default c = turned-down _ _ _ _ _ _ _ _ _ (not-whole _ _ (part-shown _ _ c.in_default.ensures.cases))

pub returns-in_default-as_array : goal.returns-in_default-as_array
unfolding whole_sectors
returns-in_default-as_array c = turned-down _ _ _ _ _ _ _ _ _ (not-whole _ _ (part-written _ _ c.in_default-as_array.ensures.cases))

pub returns-then-files-gt-MAX_VF : goal.returns-then-files-gt-MAX_VF
unfolding whole_sectors
returns-then-files-gt-MAX_VF c =
    let a = c.args in
    let whole = both-whole _ _ c.in-Some.ensures.cases.long c.in-Some-as_array.ensures.cases.long in
    turned-down _ _ _ _ _ _ _ _ _ (not-fit _ _ whole (many-unfit _ _ _ _ _ _ _ _ c.if-files-gt-MAX_VF.true))

pub returns-in_err-opens : goal.returns-in_err-opens
unfolding whole_sectors
returns-in_err-opens c =
    let a = c.args in
    let shown = c.in-Some.ensures.cases in
    let written = c.in-Some-as_array.ensures.cases in
    let whole = both-whole _ _ shown.long written.long in
    let fit = few-fit a.lba a.shown.now a.written.now a.busy a.fat.now a.area.now a.files.now a.w.now c.if-files-gt-MAX_VF.false in
    let l = rw (shown.same, written.same) at c.judged-opens.ensures in
    let s = settled-as _ _ _ _ _ _ _ _ _ _ _ _ _ _ (judged _ _ whole fit) l c.settle.ensures in
    (told-err _ _ c.from_residual.ensures.1 ∙ sym (ap told c.in_err-opens.was) ∙ s.0, s.1, s.2, s.3)

pub returns : goal.returns
unfolding whole_sectors
returns c =
    let a = c.args in
    let shown = c.in-Some.ensures.cases in
    let written = c.in-Some-as_array.ensures.cases in
    let whole = both-whole _ _ shown.long written.long in
    let fit = few-fit a.lba a.shown.now a.written.now a.busy a.fat.now a.area.now a.files.now a.w.now c.if-files-gt-MAX_VF.false in
    let l = rw (shown.same, written.same) at c.judged-opens.ensures in
    let s = settled-as _ _ _ _ _ _ _ _ _ _ _ _ _ _ (judged _ _ whole fit) l c.settle.ensures in
    (sym (ap told c.in_ok-opens.was) ∙ s.0, s.1, s.2, s.3)
