use native.Mathlib.Omega.{arith}
use Prim.Native.Char.{code}
use borrow.Author.Tests.{lt-leb, le-leb}
use Rattle.slots.specs.SlotLaws.{and-false}
use Rattle.slots.specs.Text.{lower_of}
use Rattle.slots.proofs.fields.lower.Goals as goal

pub returns-then-c-lt65 : goal.returns-then-c-lt65
unfolding lower_of
returns-then-c-lt65 c = simp (lt-leb (code "A") c.args.c (omega arith))

pub returns-then-c-gt90 : goal.returns-then-c-gt90
unfolding lower_of
returns-then-c-gt90 c = simp (lt-leb c.args.c (code "Z") (omega arith), and-false)

pub returns : goal.returns
unfolding lower_of
returns c = let x = c.args.c in simp (le-leb (code "A") x (omega arith), le-leb x (code "Z") (omega arith))
