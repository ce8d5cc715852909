use Rattle.state.specs.Setters.{with_locks, with_now_ms}
use Rattle.sessions.specs.Poll.{ticked}
use Rattle.sessions.proofs.poll.tick.Goals as goal

pub returns-then-mounted : goal.returns-then-mounted
unfolding ticked with_locks with_now_ms
returns-then-mounted c = simp c.if-mounted.true

pub returns-else-mounted : goal.returns-else-mounted
unfolding ticked with_locks with_now_ms
returns-else-mounted c = simp c.if-mounted.false
