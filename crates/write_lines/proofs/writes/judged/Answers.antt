use mathlib.Core.Path.{sym, ◌∙◌}
use lib.Seq.{length-take-le}
use Rattle.session_lines.specs.StepLaws.{lends-rows, lends-entries, lends-bytes}
use Rattle.write_lines.specs.WriteLaws.{step-bad, area-bad, step-written, area-written}
use Rattle.write_lines.proofs.writes.judged.Goals as goal

pub returns-then-not-can_lend : goal.returns-then-not-can_lend
returns-then-not-can_lend c =
    let l = sym c.can_lend.ensures ∙ c.if-not-can_lend.true in
    record { step = c.bad.ensures ∙ step-bad _ _ _ _ _ _ _ l; medium = area-bad c.args.s _ _ _ _ _ _ l }

pub slice_bounds-on_table-end : goal.slice_bounds-on_table-end
slice_bounds-on_table-end c = sym (length-take-le _ _ (lends-entries _ _ _ (sym c.can_lend.ensures ∙ c.if-not-can_lend.false)))

pub slice_bounds-on_table-end-2 : goal.slice_bounds-on_table-end-2
slice_bounds-on_table-end-2 c = lends-bytes _ _ _ (sym c.can_lend.ensures ∙ c.if-not-can_lend.false)

pub slice_bounds-on_table-end-3 : goal.slice_bounds-on_table-end-3
slice_bounds-on_table-end-3 c = sym (length-take-le _ _ (lends-bytes _ _ _ (sym c.can_lend.ensures ∙ c.if-not-can_lend.false)))

pub on_table-number-requires : goal.on_table-number-requires
on_table-number-requires c = lends-rows _ _ _ (sym c.can_lend.ensures ∙ c.if-not-can_lend.false)

pub returns : goal.returns
returns c =
    let l = sym c.can_lend.ensures ∙ c.if-not-can_lend.false in
    let e = c.on_table-number.ensures in
    record { step = step-written c.args.s _ _ _ _ _ _ _ _ _ l e.number e.state e.table; medium = area-written c.args.s _ _ _ _ _ _ _ l e.medium }
