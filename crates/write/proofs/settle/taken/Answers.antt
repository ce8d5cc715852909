use Rattle.state.specs.Setters.{with_last, with_session, with_n}
use Rattle.write.specs.Write.{taken_state}
use Rattle.write.proofs.settle.taken.Goals as goal

pub returns-then-opens : goal.returns-then-opens
unfolding taken_state with_last with_session with_n
returns-then-opens c = simp (c.if-opens.true, c.max-w.ensures)

pub returns-else-opens : goal.returns-else-opens
unfolding taken_state with_last with_session with_n
returns-else-opens c = simp (c.if-opens.false, c.max-w.ensures)
