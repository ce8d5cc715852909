-- the number fits 32 bits
use Rattle.std.proofs.Common.{◌<◌}
use Rattle.body_corners.proofs.fields.field.Given as goal

abbrev pub invariant-loop-i : goal.invariant-loop-i
invariant-loop-i l = l.n < 4294967296
