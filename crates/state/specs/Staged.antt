-- The staged clusters.
use Rattle.std.specs.Prelude.{ℕ, Bool, not, ◌&&◌, List, eqb, get_or, Option}
use Rattle.loops.specs.Loops.{count}
use Rattle.loops.specs.Found.{find}
use Rattle.state.specs.State.{max_slots, no_st}
use Rattle.state.specs.declared.w.St.{St}

-- it is in use, for cluster c
unfoldable pub is_slot : St → ℕ → Bool
is_slot s c = not (eqb s.c 0) && eqb s.c c

abbrev pub slot_here : List St → ℕ → ℕ → Bool
slot_here ss c i = is_slot (get_or ss i no_st) c

-- the first staging slot of cluster c
unfoldable pub slot_of : List St → ℕ → Option ℕ
slot_of ss c = find (slot_here ss c) max_slots

-- the first free slot, and how many there are
abbrev pub free_slot_here : List St → ℕ → Bool
free_slot_here ss i = eqb (get_or ss i no_st).c 0

unfoldable pub free_slot : List St → Option ℕ
free_slot ss = find (free_slot_here ss) max_slots

unfoldable pub free_slots : List St → ℕ
free_slots ss = count (free_slot_here ss) max_slots 0
