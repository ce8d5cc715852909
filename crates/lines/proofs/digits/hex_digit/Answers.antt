-- each range of characters has its own value
use Rattle.loops.specs.Tests.{tests}
use Rattle.lines.specs.Digits.{is_digit, hex_digit}
use Rattle.lines.proofs.digits.hex_digit.Goals as goal

pub returns-in-48-to-57 : goal.returns-in-48-to-57
unfolding hex_digit is_digit
returns-in-48-to-57 c = search tests

pub returns-in-65-to-70 : goal.returns-in-65-to-70
unfolding hex_digit is_digit
returns-in-65-to-70 c = search tests

pub returns-in-97-to-102 : goal.returns-in-97-to-102
unfolding hex_digit is_digit
returns-in-97-to-102 c = search tests

pub returns-in_default : goal.returns-in_default
unfolding hex_digit is_digit
returns-in_default c = search tests

pub returns-in_default-2 : goal.returns-in_default-2
unfolding hex_digit is_digit
returns-in_default-2 c = search tests

pub returns-in_default-3 : goal.returns-in_default-3
unfolding hex_digit is_digit
returns-in_default-3 c = search tests

pub returns-in_default-4 : goal.returns-in_default-4
unfolding hex_digit is_digit
returns-in_default-4 c = search tests
