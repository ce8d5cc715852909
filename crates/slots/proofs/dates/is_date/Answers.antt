use borrow.Author.Tests.{lt-leb, le-leb}
use Rattle.slots.specs.SlotLaws.{and-false}
use native.Mathlib.Omega.{arith}
use Rattle.slots.specs.Slots.{is_date}
use Rattle.slots.proofs.dates.is_date.Goals as goal

pub returns-then-i-lt13 : goal.returns-then-i-lt13
unfolding is_date
returns-then-i-lt13 c = let i = c.args.i in simp (lt-leb 0x0D i (omega arith), lt-leb 0x16 i (omega arith))

pub returns-then-i-le19 : goal.returns-then-i-le19
unfolding is_date
returns-then-i-le19 c = let i = c.args.i in simp (le-leb 0x0D i (omega arith), le-leb i 0x13 (omega arith))

pub returns-then-i-lt22 : goal.returns-then-i-lt22
unfolding is_date
returns-then-i-lt22 c = let i = c.args.i in simp (lt-leb i 0x13 (omega arith), lt-leb 0x16 i (omega arith), and-false)

pub returns : goal.returns
unfolding is_date
returns c = let i = c.args.i in simp (lt-leb i 0x13 (omega arith), le-leb 0x16 i (omega arith), and-false)
