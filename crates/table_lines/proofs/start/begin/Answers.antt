use Rattle.std.proofs.Math.Path.{refl}
use Rattle.std.proofs.Common.{◌∙◌, sym}
use Rattle.refusals.proofs.Numbers.{refused}
use Rattle.table_lines.specs.RowLaws.{step-refused, step-taken}
use Rattle.table_lines.proofs.start.begin.Goals as goal

pub returns-in-Ok : goal.returns-in-Ok
returns-in-Ok c = let e = c.in-Ok.ensures in step-taken c.args.s c.args.t c.args.first 0 c.on_table.new.w e.0 e.1 refl

pub returns-in-Err : goal.returns-in-Err
returns-in-Err c =
    let e = c.in-Err.ensures in
    step-refused c.args.s c.args.t c.args.first c.number.result c.on_table.new.w (c.number.ensures ∙ e.0) e.1 (λ z. refused c.in-Err.e (sym c.number.ensures ∙ z))
