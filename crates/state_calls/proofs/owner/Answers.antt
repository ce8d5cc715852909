use borrow.Author.Tests.{lt-ltb, le-ltb}
use Rattle.state_calls.specs.Answers.{files_owner}
use Rattle.state_calls.proofs.owner.Goals as goal

pub returns-then-files-gt-MAX_VF : goal.returns-then-files-gt-MAX_VF
unfolding files_owner
returns-then-files-gt-MAX_VF c = simp (lt-ltb _ _ c.if-files-gt-MAX_VF.true, c.number.ensures)

pub returns : goal.returns
unfolding files_owner
returns c = rw (le-ltb _ _ c.if-files-gt-MAX_VF.false, ← c.by_rows.ensures.same_rows, ← c.by_rows.ensures.same_first, ← c.owner.ensures) c.own_row.ensures
