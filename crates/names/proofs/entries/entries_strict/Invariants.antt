use Prim.Native.Nat.{◌-◌}
use mathlib.Core.Path.{◌≡◌}
use Rattle.names.specs.Names.{entry_of, entries_strict}
use Rattle.names.proofs.entries.entries_strict.Given as goal

abbrev pub invariant-loop-seq : goal.invariant-loop-seq
invariant-loop-seq l = entries_strict (entry_of l.rec l.sector l.base) 20 1 l.idx ≡ entries_strict (entry_of l.rec l.sector l.base) (21 - l.seq) l.seq l.k
