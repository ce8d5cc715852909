use Rattle.loops.specs.Tests.{tests}
use Rattle.names.specs.Names.{char_place}
use Rattle.names.proofs.entries.char_place.Goals as goal

pub returns-then-i-lt5 : goal.returns-then-i-lt5
unfolding char_place
returns-then-i-lt5 c = search tests

pub returns-then-i-lt11 : goal.returns-then-i-lt11
unfolding char_place
returns-then-i-lt11 c = search tests

pub returns : goal.returns
unfolding char_place
returns c = search tests
