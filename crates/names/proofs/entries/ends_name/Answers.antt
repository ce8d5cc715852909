use Rattle.loops.specs.Tests.{tests}
use Rattle.names.specs.Names.{ends}
use Rattle.names.proofs.entries.ends_name.Goals as goal

pub returns-then-c-eq0 : goal.returns-then-c-eq0
unfolding ends
returns-then-c-eq0 c = search tests

pub returns : goal.returns
unfolding ends
returns c = search tests
