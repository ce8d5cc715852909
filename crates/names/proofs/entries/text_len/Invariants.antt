use Prim.Native.Nat.{ℕ, ◌-◌}
use mathlib.Core.Bool.{Bool}
use mathlib.Core.Path.{◌≡◌}
use Rattle.loops.specs.Loops.{first}
use Rattle.names.specs.Names.{char_of, ends}
use Rattle.names.proofs.entries.text_len.Given as goal

abbrev pub invariant-loop-i : goal.invariant-loop-i
invariant-loop-i l = let p : ℕ → Bool = λ j. ends (char_of l.entry j) in first p 13 0 ≡ first p (13 - l.i) l.i
