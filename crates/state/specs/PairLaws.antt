-- A place that was found is one of the places.
use Rattle.std.specs.Prelude.{ℕ, ◌<◌, List, ◌≡◌, Some}
use Rattle.loops.specs.Found.{find-lt}
use Rattle.state.specs.State.{max_pairs, max_slots}
use Rattle.state.specs.Pairs.{pair_here, pair_idx, free_pair_here, free_pair}
use Rattle.state.specs.Staged.{slot_here, slot_of, free_slot_here, free_slot}
use Rattle.state.specs.declared.w.Pair.{Pair}
use Rattle.state.specs.declared.w.St.{St}

-- a place that was found is one of them
pub pair_idx-lt : (ps : List Pair) (c i : ℕ) → pair_idx ps c ≡ Some i → i < max_pairs
unfolding pair_idx
pair_idx-lt ps c i e = find-lt (pair_here ps c) max_pairs i e

pub free_pair-lt : (ps : List Pair) (i : ℕ) → free_pair ps ≡ Some i → i < max_pairs
unfolding free_pair
free_pair-lt ps i e = find-lt (free_pair_here ps) max_pairs i e

pub slot_of-lt : (ss : List St) (c i : ℕ) → slot_of ss c ≡ Some i → i < max_slots
unfolding slot_of
slot_of-lt ss c i e = find-lt (slot_here ss c) max_slots i e

pub free_slot-lt : (ss : List St) (i : ℕ) → free_slot ss ≡ Some i → i < max_slots
unfolding free_slot
free_slot-lt ss i e = find-lt (free_slot_here ss) max_slots i e
