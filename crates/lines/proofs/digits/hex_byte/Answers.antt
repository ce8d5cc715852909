-- Both are hex digits, or one of them isn't.
use Rattle.lines.specs.Digits.{hex_byte}
use Rattle.lines.proofs.digits.hex_byte.Goals as goal

pub returns-in_err-hex_digit : goal.returns-in_err-hex_digit
unfolding hex_byte
returns-in_err-hex_digit c = rw (c.from_residual.ensures, ← c.in_err-hex_digit.ensures.value)

pub returns-in_err-hex_digit-2 : goal.returns-in_err-hex_digit-2
unfolding hex_byte
returns-in_err-hex_digit-2 c =
    rw (c.from_residual-in_err-hex_digit-2.ensures, ← c.in_ok-hex_digit.ensures.value, ← c.in_err-hex_digit-2.ensures.value)

pub returns : goal.returns
unfolding hex_byte
returns c = rw (← c.in_ok-hex_digit.ensures.value, ← c.in_ok-hex_digit-2.ensures.value)
