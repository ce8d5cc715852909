use Rattle.staging.proofs.MoveRows.{MovedTo}
use Rattle.staging.proofs.moves.mark_moved.Given as goal

abbrev pub invariant-loop-j : goal.invariant-loop-j
invariant-loop-j l = MovedTo l.initial.files l.written l.j l.files
