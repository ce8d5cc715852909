use Rattle.state.specs.Setters.{with_boot, with_fat1, with_rec, with_pair, with_st, with_session, with_locks, with_last, with_staging, with_done, with_end_at, with_parks, with_purge}
use Rattle.release.specs.Release.{emptied, released_state}
use Rattle.release.proofs.released.settle_state.Goals as goal

pub returns : goal.returns
unfolding emptied released_state with_boot with_fat1 with_rec with_pair with_st with_session with_locks with_last with_staging with_done with_end_at with_parks with_purge
returns c = simp (c.keeps_locks-w.ensures, c.purges-w.ensures, c.empty.ensures)
