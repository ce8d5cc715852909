use Rattle.loops.specs.Tests.{tests}
use Rattle.lines.specs.Words.{is_word}
use Rattle.lines.proofs.words.is_word.Goals as goal

pub returns-then-word-name : goal.returns-then-word-name
unfolding is_word
returns-then-word-name c = search tests

pub returns-else-word-name : goal.returns-else-word-name
unfolding is_word
returns-else-word-name c = search tests
