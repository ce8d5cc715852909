use Prim.Native.Nat.{◌-◌}
use mathlib.Core.Path.{◌≡◌}
use lib.ListN.{length}
use Rattle.loops.specs.Loops.{first}
use Rattle.medium.specs.Medium.{free_at, search_end}
use Rattle.medium.proofs.blocks.next_free.Given as goal

abbrev pub invariant-loop-i : goal.invariant-loop-i
invariant-loop-i l = search_end l.fat l.hint ≡ first (free_at l.fat) (length l.fat - l.i) l.i
