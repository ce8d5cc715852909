-- A field is a number and its end.
use Rattle.std.proofs.Common.{arith}
use Rattle.lines.specs.Digits.{number_field}
use Rattle.lines.specs.DigitLaws.{number-onward, end-onward}
use Rattle.lines.proofs.digits.number.Goals as goal

pub returns-in_err-v-clause-field : goal.returns-in_err-v-clause-field
unfolding number_field
returns-in_err-v-clause-field c = rw (c.from_residual.ensures, ← c.in_err-v.ensures)

pub returns-in_err-field_end-clause-field : goal.returns-in_err-field_end-clause-field
unfolding number_field
returns-in_err-field_end-clause-field c =
    rw (c.from_residual-in_err-field_end.ensures, ← c.in_ok-v.ensures, ← c.in_err-field_end.ensures)

pub returns-clause-field : goal.returns-clause-field
unfolding number_field
returns-clause-field c = rw (← c.in_ok-v.ensures, ← c.in_ok-field_end.ensures)

pub returns-clause-onward : goal.returns-clause-onward
returns-clause-onward c =
    let n = rw (← c.in_ok-v.ensures) at (number-onward c.args.line.now c.args.most) in
    let e = rw (← c.in_ok-field_end.ensures) at (end-onward c.in_ok-v.rest.now c.args.sep) in (n.0, omega (arith, n.1))
