use Prim.Native.Nat.{◌≤◌, ◌-◌, ◌+◌}
use lib.ListN.{length, take, drop}
use mathlib.Core.List.{◌++◌}
use mathlib.Core.Path.{◌≡◌}
use Rattle.names.specs.Names.{unblanked}
use Rattle.names.proofs.text.put_part.Given as goal

abbrev pub invariant-loop-c : goal.invariant-loop-c
invariant-loop-c l =
    (l.m ≤ 32) × (l.m ≤ l.n + l.c-index) × (length l.chars ≡ 32)
    × (take 32 (take l.n l.initial.chars ++ unblanked (take (l.end - l.at) (drop l.at l.bytes))) ≡ take 32 (take l.m l.chars ++ unblanked (drop l.c-index l.c-items)))
