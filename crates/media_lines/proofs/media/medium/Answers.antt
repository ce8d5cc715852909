-- The length was read to be the area's at most.
use Rattle.std.proofs.Common.{arith, sym, length-take-le}
use Rattle.media_lines.proofs.media.medium.Goals as goal

pub slice_bounds-fill-end-2 : goal.slice_bounds-fill-end-2
slice_bounds-fill-end-2 c = sym (length-take-le _ _ (omega (arith, c.in_ok-len.ensures.onward.0)))
