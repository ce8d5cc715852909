-- what the digits before i give
use Rattle.lines.specs.DigitLaws.{Reading}
use Rattle.lines.proofs.digits.digits.Given as goal

abbrev pub invariant-loop-i : goal.invariant-loop-i
invariant-loop-i l = Reading l.line l.most l.v l.i
