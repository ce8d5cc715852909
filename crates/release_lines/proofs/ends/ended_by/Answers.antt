use Rattle.release_lines.specs.Ends.{ended_by}
use Rattle.release_lines.proofs.ends.ended_by.Goals as goal

pub returns-in-Poll : goal.returns-in-Poll
unfolding ended_by
returns-in-Poll c = rw c.in-Poll.is c.poll.ensures

pub returns-in-Release : goal.returns-in-Release
unfolding ended_by
returns-in-Release c = rw c.in-Release.is c.release.ensures

pub returns-in-ReleaseAll : goal.returns-in-ReleaseAll
unfolding ended_by
returns-in-ReleaseAll c = rw c.in-ReleaseAll.is c.release_all.ensures

pub returns-in-BusReset : goal.returns-in-BusReset
unfolding ended_by
returns-in-BusReset c = rw c.in-BusReset.is c.on_bus_reset.ensures
