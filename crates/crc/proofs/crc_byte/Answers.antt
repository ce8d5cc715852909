use native.Mathlib.Omega.{arith}
use Rattle.crc.specs.CrcLaws.{table, index-lt, table-step}
use Rattle.crc.proofs.crc_byte.Goals as goal

pub overflow_cast-result : goal.overflow_cast-result
overflow_cast-result c = omega (arith, index-lt c.args.c c.args.b (omega arith) (omega arith))

pub offset_bounds-entries-i : goal.offset_bounds-entries-i
offset_bounds-entries-i c = omega (arith, index-lt c.args.c c.args.b (omega arith) (omega arith))

pub bounds-entries-i : goal.bounds-entries-i
unfolding table
bounds-entries-i c = rw c.requires (index-lt c.args.c c.args.b (omega arith) (omega arith))

pub returns : goal.returns
returns c = rw c.requires (table-step _ _ (omega arith) (omega arith))
