use Rattle.state.specs.Setters.{with_rw, with_want_rw}
use Rattle.entry_write.specs.EntryWrite.{drive}
use Rattle.entry_write.proofs.drive.Goals as goal

pub returns : goal.returns
unfolding drive with_rw with_want_rw
returns c = rw c.initial_state-w.ensures
