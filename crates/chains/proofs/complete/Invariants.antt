use Prim.Native.Nat.{◌-◌}
use mathlib.Core.Path.{◌≡◌}
use Rattle.loops.specs.Loops.{all}
use Rattle.chains.specs.Walk.{link_at, fits}
use Rattle.chains.specs.WalkLaws.{slots_to}
use Rattle.chains.proofs.complete.Given as goal

abbrev pub invariant-loop-k : goal.invariant-loop-k
invariant-loop-k l =
    (l.c ≡ link_at l.pair l.start l.k)
    × (l.slots ≡ slots_to l.pair l.st l.start l.k)
    × (all (fits l.pair l.st l.start l.size) l.n 0 ≡ all (fits l.pair l.st l.start l.size) (l.n - l.k) l.k)
