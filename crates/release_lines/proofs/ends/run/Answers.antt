use mathlib.Core.Path.{sym, ◌∙◌}
use lib.Seq.{length-take-le}
use Rattle.session_lines.specs.StepLaws.{lends-rows, lends-entries, lends-bytes}
use Rattle.release_lines.specs.EndLaws.{step-bad, step-ran}
use Rattle.release_lines.proofs.ends.run.Goals as goal

pub returns-then-not-can_lend : goal.returns-then-not-can_lend
returns-then-not-can_lend c = c.bad.ensures ∙ step-bad _ _ _ _ (sym c.can_lend.ensures ∙ c.if-not-can_lend.true)

pub slice_bounds-on_table-end : goal.slice_bounds-on_table-end
slice_bounds-on_table-end c = sym (length-take-le _ _ (lends-entries _ _ _ (sym c.can_lend.ensures ∙ c.if-not-can_lend.false)))

pub slice_bounds-on_table-end-2 : goal.slice_bounds-on_table-end-2
slice_bounds-on_table-end-2 c = sym (length-take-le _ _ (lends-bytes _ _ _ (sym c.can_lend.ensures ∙ c.if-not-can_lend.false)))

pub on_table-r-requires : goal.on_table-r-requires
on_table-r-requires c = lends-rows _ _ _ (sym c.can_lend.ensures ∙ c.if-not-can_lend.false)

pub returns : goal.returns
returns c =
    let e = c.on_table-r.ensures in
    rw c.said.ensures (step-ran c.args.call c.args.s _ _ _ _ _ (sym c.can_lend.ensures ∙ c.if-not-can_lend.false) e.answer e.state e.table)
