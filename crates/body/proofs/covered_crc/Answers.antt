use Rattle.body.specs.Summed.{covered-parts}
use native.Mathlib.Omega.{arith}
use mathlib.Core.Path.{◌∙◌}
use borrow.Author.Rules.{rules}
use Rattle.body.proofs.covered_crc.Goals as goal

pub slice_bounds-crc16_upd-count-2 : goal.slice_bounds-crc16_upd-count-2
slice_bounds-crc16_upd-count-2 c = omega (arith, c.bytes_before-after.ensures)

pub slice_bounds-crc16_upd-start-2 : goal.slice_bounds-crc16_upd-start-2
slice_bounds-crc16_upd-start-2 c = let q = c.bytes_before-after.ensures in search rules

pub returns : goal.returns
returns c = c.crc16_upd.ensures ∙ covered-parts _ _ _ _ _ _ _ c.bytes_before-head.ensures c.bytes_before-marker.ensures c.bytes_before-after.ensures c.crc16_upd-c.ensures
