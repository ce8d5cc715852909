-- The host's FAT entries: pairs of a cluster and a value (document 01, "Judging a sector").
use Rattle.std.specs.Prelude.{ℕ, Bool, not, ◌&&◌, List, eqb, get_or, set, Option, Some, None}
use Rattle.loops.specs.Loops.{pick, count}
use Rattle.loops.specs.Found.{find}
use Rattle.state.specs.State.{max_pairs, pair0, st0}
use Rattle.state.specs.Setters.{with_pair, with_st}
use Rattle.state.specs.Staged.{slot_of}
use Rattle.state.specs.declared.w.Pair.{Pair}
use Rattle.state.specs.declared.w.W.{W}

-- it is in use, for cluster c
unfoldable pub is_pair : Pair → ℕ → Bool
is_pair p c = not (eqb p.c 0) && eqb p.c c

abbrev pub pair_here : List Pair → ℕ → ℕ → Bool
pair_here ps c i = is_pair (get_or ps i pair0) c

-- the first place with the pair of c
unfoldable pub pair_idx : List Pair → ℕ → Option ℕ
pair_idx ps c = find (pair_here ps c) max_pairs

-- `pair`: the host's FAT entry of cluster c, if it wrote one
unfoldable pub pair_at : List Pair → Option ℕ → Option ℕ
pair_at ps (Some i) = Some (get_or ps i pair0).v
pair_at ps None = None

unfoldable pub pair_of : List Pair → ℕ → Option ℕ
pair_of ps c = pair_at ps (pair_idx ps c)

-- the first free place, and how many there are
abbrev pub free_pair_here : List Pair → ℕ → Bool
free_pair_here ps i = eqb (get_or ps i pair0).c 0

unfoldable pub free_pair : List Pair → Option ℕ
free_pair ps = find (free_pair_here ps) max_pairs

unfoldable pub free_pairs : List Pair → ℕ
free_pairs ps = count (free_pair_here ps) max_pairs 0

-- the staging slot of cluster c is not in use any more
unfoldable pub drop_at : W → Option ℕ → W
drop_at w (Some k) = with_st w (set w.st k st0)
drop_at w None = w

-- a new pair goes to the first free place; where there is none, nothing is set
unfoldable pub add_at : W → ℕ → ℕ → Option ℕ → W
add_at w c v (Some i) = with_pair w (set w.pair i (record { c = c; v = v }))
add_at w c v None = w

-- where cluster c has a pair, 0 removes the pair and its staging slot, and another value is set; where it has none, 0 sets nothing
unfoldable pub set_at : W → ℕ → ℕ → Option ℕ → W
set_at w c v (Some i) =
    pick (eqb v 0) (drop_at (with_pair w (set w.pair i pair0)) (slot_of w.st c))
    (with_pair w (set w.pair i (record { c = (get_or w.pair i pair0).c; v = v })))
set_at w c v None = pick (eqb v 0) w (add_at w c v (free_pair w.pair))

-- the FAT entry of cluster c becomes v
unfoldable pub set_pair : W → ℕ → ℕ → W
set_pair w c v = set_at w c v (pair_idx w.pair c)
