use mathlib.Core.Path.{refl}
use Rattle.crc.specs.CrcLaws.{table, crc-more, crc-end}
use Rattle.crc.proofs.crc16_upd.Goals as goal

pub crc_byte-out-requires : goal.crc_byte-out-requires
unfolding table
crc_byte-out-requires c = refl

pub loop-b-preserved : goal.loop-b-preserved
loop-b-preserved c = simp c.crc_byte-out.ensures (crc-more _ _ _ _ c.loop-b.invariant c.loop-b-test.true)

pub returns : goal.returns
returns c = crc-end _ _ _ _ c.loop-b.invariant c.loop-b-test.false
