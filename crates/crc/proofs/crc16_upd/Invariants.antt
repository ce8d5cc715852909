use mathlib.Core.Path.{◌≡◌}
use lib.ListN.{drop}
use Rattle.crc.specs.Crc.{crc_of}
use Rattle.crc.proofs.crc16_upd.Given as goal

abbrev pub invariant-loop-b : goal.invariant-loop-b
invariant-loop-b l = crc_of l.c l.bytes ≡ crc_of l.out (drop l.b-index l.bytes)
