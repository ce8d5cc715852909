use Rattle.loops.specs.Rows.{rows-more, rows-end}
use Rattle.decode.proofs.decode_bytes.Goals as goal

pub loop-i-preserved : goal.loop-i-preserved
loop-i-preserved c = rows-more _ _ _ _ c.loop-i.invariant c.decoded_byte.result c.decoded_byte.ensures c.loop-i-test.true

pub returns : goal.returns
returns c = rows-end _ _ _ _ c.loop-i.invariant c.loop-i-test.false
