-- what is listed of all is what is listed of what is left
use Rattle.std.proofs.Common.{◌≡◌, length}
use Rattle.entry_write.specs.Listing.{listed_from}
use Rattle.entry_write.proofs.list.lines.Given as goal

abbrev pub invariant-loop-left : goal.invariant-loop-left
invariant-loop-left g l = listed_from (length l.input) l.input l.fn.first ≡ listed_from (length l.left) l.left l.w

abbrev pub decreases-loop-left : goal.decreases-loop-left
decreases-loop-left g l = length l.left
