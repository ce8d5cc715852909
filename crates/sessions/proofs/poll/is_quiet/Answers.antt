use Rattle.sessions.specs.Poll.{is_quiet}
use Rattle.sessions.proofs.poll.is_quiet.Goals as goal

pub returns-then-mounted : goal.returns-then-mounted
unfolding is_quiet
returns-then-mounted c = simp c.if-mounted.true

pub returns-then-not-w : goal.returns-then-not-w
unfolding is_quiet
returns-then-not-w c = simp (c.if-mounted.false, c.if-not-w.true)

pub returns-then-w : goal.returns-then-w
unfolding is_quiet
returns-then-w c = simp (c.if-mounted.false, c.if-not-w.false, c.if-w.true)

pub returns : goal.returns
unfolding is_quiet
returns c = simp (c.if-mounted.false, c.if-not-w.false, c.if-w.false, ← c.saturating_sub.ensures)
