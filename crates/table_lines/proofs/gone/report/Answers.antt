use Rattle.std.proofs.Common.{◌∙◌}
use Rattle.table_lines.specs.RowLaws.{step-gone}
use Rattle.table_lines.proofs.gone.report.Goals as goal

pub returns : goal.returns
returns c = step-gone c.args.s _ c.told.result _ (c.told.ensures ∙ c.on_table-r.ensures.number) c.on_table-r.ensures.table
