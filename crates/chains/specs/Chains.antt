-- Chains of the host's files (document 01, "Corners of vwrite.rs": `complete`).
use Rattle.std.specs.Prelude.{ℕ, zero, suc, ◌+◌, ◌-◌, ◌*◌, Bool, true, false, not, ◌&&◌, ◌||◌, List, [], ◌∷◌, ◌++◌, map, leb, ltb, eqb, get_or, replicate, Option, Some, None}
use Rattle.loops.specs.Loops.{pick, all, some}
use Rattle.bits.specs.Bit.{bit}
use Rattle.vdisk.specs.Drive.{clusters_of}
use Rattle.state.specs.State.{max_slots, no_st}
use Rattle.state.specs.Pairs.{pair_of}
use Rattle.state.specs.Staged.{slot_of}
use Rattle.state.specs.declared.w.Pair.{Pair}
use Rattle.state.specs.declared.w.St.{St}
use Rattle.chains.specs.declared.Chain.{Chain}

-- the value of a pair, 0 where there is none
unfoldable pub value_of : Option ℕ → ℕ
value_of (Some v) = v
value_of None = 0

unfoldable pub is_value : Option ℕ → Bool
is_value (Some v) = true
is_value None = false

unfoldable pub is_at : Option ℕ → Bool
is_at (Some i) = true
is_at None = false

-- the place of a slot that was found
unfoldable pub place_of : Option ℕ → ℕ
place_of (Some i) = i
place_of None = 0

-- the clusters linked by pairs, n of them from c on
unfoldable pub linked : List Pair → ℕ → ℕ → List ℕ
linked ps c zero = []
linked ps c (suc n) = c ∷ linked ps (value_of (pair_of ps c)) n

-- the clusters of a file with that start and size, and their staging slots
abbrev pub clusters_in : List Pair → ℕ → ℕ → List ℕ
clusters_in ps start size = linked ps start (clusters_of size)

abbrev pub cluster_at : List Pair → ℕ → ℕ → ℕ → ℕ
cluster_at ps start size k = get_or (clusters_in ps start size) k 0

abbrev pub slot_at : List Pair → List St → ℕ → ℕ → ℕ → ℕ
slot_at ps st start size k = place_of (slot_of st (cluster_at ps start size k))

-- every cluster has a pair and a staging slot
unfoldable pub all_held : List Pair → List St → ℕ → ℕ → Bool
all_held ps st start size =
    all (λ k. is_value (pair_of ps (cluster_at ps start size k)) && is_at (slot_of st (cluster_at ps start size k))) (clusters_of size) 0

-- no slot is repeated
unfoldable pub none_repeated : List Pair → List St → ℕ → ℕ → Bool
none_repeated ps st start size =
    all (λ k. not (some (λ i. eqb (slot_at ps st start size i) (slot_at ps st start size k)) k 0)) (clusters_of size) 0

-- sector s of the k-th cluster is needed: the file reaches into it
abbrev pub is_needed : ℕ → ℕ → ℕ → Bool
is_needed size k s = ltb (k * 32768 + s * 512) size

-- every needed sector is staged
unfoldable pub staged_at : St → ℕ → ℕ → Bool
staged_at x size k = all (λ s. not (is_needed size k s) || bit x.map s) 64 0

unfoldable pub all_staged : List Pair → List St → ℕ → ℕ → Bool
all_staged ps st start size =
    all (λ k. staged_at (get_or st (slot_at ps st start size k) no_st) size k) (clusters_of size) 0

-- the last link ends the chain: from 0xFFF8 up
unfoldable pub ends_chain : List Pair → ℕ → ℕ → Bool
ends_chain ps start size = leb 0xFFF8 (value_of (pair_of ps (cluster_at ps start size (clusters_of size - 1))))

-- `complete` has no answer for size 0, over 28 clusters, a cluster without pair or staging slot, a repeated slot, a needed sector not
-- staged, or a last link below 0xFFF8
unfoldable pub is_complete : List Pair → List St → ℕ → ℕ → Bool
is_complete ps st start size =
    not (eqb size 0) && leb (clusters_of size) max_slots
    && all_held ps st start size
    && none_repeated ps st start size
    && all_staged ps st start size
    && ends_chain ps start size

-- the slot numbers in the file's order, zeros after them
abbrev pub slot_numbers : List Pair → List St → ℕ → ℕ → List ℕ
slot_numbers ps st start size =
    map (λ c. place_of (slot_of st c)) (clusters_in ps start size) ++ replicate (max_slots - clusters_of size) 0

abbrev pub no_chain : Chain
no_chain = record { found = false; slots = replicate max_slots 0; n = 0 }

-- `complete`
unfoldable pub complete_of : List Pair → List St → ℕ → ℕ → Chain
complete_of ps st start size =
    pick (is_complete ps st start size) (record { found = true; slots = slot_numbers ps st start size; n = clusters_of size }) no_chain
