use lib.ListN.{length, take}
use mathlib.Core.Path.{◌≡◌}
use Prim.Native.Nat.{◌≤◌, ◌-◌}
use mathlib.Core.List.{◌++◌, map}
use Rattle.loops.specs.Loops.{listed}
use Rattle.names.specs.Names.{char_of, text_of, shown_char}
use Rattle.names.specs.Held.{held}
use Rattle.names.proofs.text.with_text.Given as goal

abbrev pub invariant-loop-i : goal.invariant-loop-i
invariant-loop-i l =
    (l.out.len ≤ 32) × (length l.out.chars ≡ 32)
    × (take 32 (held l.initial.out ++ map shown_char (text_of l.entry)) ≡ take 32 (held l.out ++ map shown_char (listed (char_of l.entry) (l.n - l.i) l.i)))
