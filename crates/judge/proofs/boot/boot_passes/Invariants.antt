use Prim.Native.Nat.{◌-◌}
use mathlib.Core.Bool.{◌||◌}
use mathlib.Core.Path.{◌≡◌}
use lib.Dec.{eqb}
use Rattle.loops.specs.Loops.{all}
use Rattle.sector.specs.Bytes.{same_at}
use Rattle.judge.proofs.boot.boot_passes.Given as goal

abbrev pub invariant-loop-i : goal.invariant-loop-i
invariant-loop-i l = all (λ n. eqb n 0x25 || same_at l.shown l.written n) 512 0 ≡ all (λ n. eqb n 0x25 || same_at l.shown l.written n) (512 - l.i) l.i
