-- a field ends with the line, with its separator, or not at all
use Rattle.std.proofs.Common.{ℕ, ◌-◌, ◌≡◌, List, length, take, drop, take_all, arith, length-drop}
use Rattle.loops.specs.Tests.{tests}
use Rattle.lines.specs.Digits.{field_end}
use Rattle.lines.proofs.digits.field_end.Goals as goal

past-first : (rest : List ℕ) → take (length rest - 1) (drop 1 rest) ≡ drop 1 rest
past-first rest = take_all (length rest - 1) (drop 1 rest) (omega (arith, length-drop 1 rest))

pub returns-then-is_empty : goal.returns-then-is_empty
unfolding field_end
returns-then-is_empty c = search tests

pub returns-then-rest-sep : goal.returns-then-rest-sep
unfolding field_end
returns-then-rest-sep c = search tests

pub returns : goal.returns
unfolding field_end
returns c = rw (past-first c.args.rest.now) (search tests)
