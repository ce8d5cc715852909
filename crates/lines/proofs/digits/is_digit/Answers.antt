-- a digit as the library says it
use Rattle.lines.specs.Digits.{is_digit}
use Rattle.lines.proofs.digits.is_digit.Goals as goal

pub returns : goal.returns
unfolding is_digit
returns c = c.is_ascii_digit.ensures.value
