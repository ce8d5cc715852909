use Rattle.release.specs.Undecided.{is_file}
use borrow.Author.Tests.{eq-eqb, ne_eqb}
use Rattle.release.proofs.undecided.is_file.Goals as goal

pub returns-then-e : goal.returns-then-e
unfolding is_file
returns-then-e c = simp (eq-eqb _ _ c.if-e.true)

pub returns-then-is_long : goal.returns-then-is_long
unfolding is_file
returns-then-is_long c = simp (ne_eqb _ _ c.if-e.false, ← c.is_long.ensures, c.if-is_long.true)

pub returns-then-test_u16 : goal.returns-then-test_u16
unfolding is_file
returns-then-test_u16 c = simp (ne_eqb _ _ c.if-e.false, ← c.is_long.ensures, c.if-is_long.false, ← c.attr-a.ensures, ← c.test_u16.ensures, c.if-test_u16.true)

pub returns : goal.returns
unfolding is_file
returns c = simp (ne_eqb _ _ c.if-e.false, ← c.is_long.ensures, c.if-is_long.false, ← c.attr-a.ensures, ← c.test_u16.ensures, c.if-test_u16.false, ← c.test_u16-2.ensures)
