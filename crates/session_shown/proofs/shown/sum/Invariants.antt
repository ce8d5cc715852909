-- the checksum stays below its modulus
use Rattle.std.proofs.Common.{◌<◌}
use Rattle.session_shown.proofs.shown.sum.Given as goal

abbrev pub invariant-loop-x : goal.invariant-loop-x
invariant-loop-x l = l.h < 4294967291
