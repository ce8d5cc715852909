use Rattle.loops.specs.Tests.{tests}
use Rattle.vdisk.specs.Drive.{dir_kind_of}
use Rattle.vdisk.proofs.drive.dir_kind.Goals as goal

pub returns-then-c-eq2 : goal.returns-then-c-eq2
unfolding dir_kind_of
returns-then-c-eq2 c = search tests

pub returns-then-c-eq3 : goal.returns-then-c-eq3
unfolding dir_kind_of
returns-then-c-eq3 c = search tests

pub returns-then-c-eq4 : goal.returns-then-c-eq4
unfolding dir_kind_of
returns-then-c-eq4 c = search tests

pub returns-then-c-eq5 : goal.returns-then-c-eq5
unfolding dir_kind_of
returns-then-c-eq5 c = search tests

pub returns-then-c-eq6 : goal.returns-then-c-eq6
unfolding dir_kind_of
returns-then-c-eq6 c = search tests

pub returns : goal.returns
unfolding dir_kind_of
returns c = search tests
