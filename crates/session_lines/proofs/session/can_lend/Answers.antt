-- all three tests, or one of them that fails
use Rattle.loops.specs.Tests.{tests}
use Rattle.session_lines.specs.Steps.{lends}
use Rattle.session_lines.proofs.session.can_lend.Goals as goal
use Rattle.session_lines.proofs.session.can_lend.Goals.{then-s-le-ROWS, else-s-le-ROWS}

pub returns-then-s-fat : goal.returns-then-s-fat
unfolding lends
returns-then-s-fat c = search tests

pub returns-else-s-fat : goal.returns-else-s-fat
unfolding lends
returns-else-s-fat c = elim c.if-s-le-ROWS.branch [ then-s-le-ROWS w ↦ search tests | else-s-le-ROWS w ↦ search tests ]
