use Rattle.std.proofs.Common.{map}
use Rattle.file_table.specs.Files.{id_of}
use Prim.Native.Nat.{◌≤◌}
use mathlib.Core.List.{◌++◌}
use mathlib.Core.Path.{◌≡◌}
use lib.ListN.{length, take, drop}
use Rattle.release.specs.Notes.{waiters, waiters_from}
use Rattle.release.proofs.notes.list_waiting.Given as goal

abbrev pub invariant-loop-j : goal.invariant-loop-j
invariant-loop-j l = (l.n ≤ l.j) × (length l.rows ≡ 400) × (waiters (map id_of l.files) ≡ take l.n l.rows ++ waiters_from l.j (drop l.j (map id_of l.files)))
