use Rattle.loops.specs.Tests.{tests}
use Rattle.vdisk.specs.Ids.{dir_of}
use Rattle.vdisk.proofs.ids.dir.Goals as goal

pub returns-then-k-eq3 : goal.returns-then-k-eq3
unfolding dir_of
returns-then-k-eq3 c = search tests

pub returns-else-k-eq3 : goal.returns-else-k-eq3
unfolding dir_of
returns-else-k-eq3 c = search tests
