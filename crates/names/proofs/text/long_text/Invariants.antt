use Prim.Native.Nat.{◌≤◌}
use lib.ListN.{take}
use mathlib.Core.List.{map}
use mathlib.Core.Path.{◌≡◌}
use Rattle.names.specs.Names.{entry_of, joined, shown_char}
use Rattle.names.specs.Held.{held}
use Rattle.names.proofs.text.long_text.Given as goal

abbrev pub invariant-loop-s : goal.invariant-loop-s
invariant-loop-s l = (l.out.len ≤ 32) × (held l.out ≡ take 32 (map shown_char (joined (entry_of l.rec l.sector l.base) l.idx l.s)))
