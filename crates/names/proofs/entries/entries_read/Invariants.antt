use Prim.Native.Nat.{◌-◌}
use mathlib.Core.Path.{◌≡◌}
use Rattle.names.specs.Names.{entry_of, entries_read}
use Rattle.names.proofs.entries.entries_read.Given as goal

abbrev pub invariant-loop-seq : goal.invariant-loop-seq
invariant-loop-seq l = entries_read (entry_of l.rec l.sector l.base) 3 1 l.idx ≡ entries_read (entry_of l.rec l.sector l.base) (4 - l.seq) l.seq l.k
