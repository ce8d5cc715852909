-- What a taken sector changes, place by place, and that nothing else does (document 01, "Judging a sector"). o is how `classify` judged it.
use Rattle.std.specs.Prelude.{ℕ, ◌+◌, ◌*◌, ◌<◌, max, Bool, true, false, not, ◌&&◌, ◌||◌, ◌≡◌, leb, eqb, get_or, Option, Some, None}
use Rattle.loops.specs.Loops.{pick, some}
use Rattle.loops.specs.Rows.{rows}
use Rattle.num.specs.Num.{wrapping_next}
use Rattle.bits.specs.Bit.{set_bit}
use Rattle.vdisk.specs.Drive.{dir_kind_of}
use Rattle.vdisk.specs.declared.drive.Place.{Place}
use Rattle.vdisk.specs.declared.drive.Place.TheVariants.{Boot, Fat, Root, Data, Outside}
use Rattle.vdisk.specs.declared.owner.Own.{Own}
use Rattle.vdisk.specs.declared.owner.Own.TheVariants.{Reserved, Fixed, Dyn, Free}
use Rattle.records.specs.Records.{no_rec, root_rec}
use Rattle.state.specs.State.{max_slots, pair0, st0, no_st}
use Rattle.state.specs.Setters.{with_boot, with_fat1, with_rec, with_pair, with_st, with_session, with_last, with_n}
use Rattle.state.specs.Pairs.{pair_of}
use Rattle.state.specs.declared.w.Stats.{Stats}
use Rattle.state.specs.declared.w.W.{W}
use Rattle.medium.specs.Reads.{moved_ref}
use Rattle.clusters.specs.Clusters.{is_live}
use Rattle.judge.specs.Classify.{SectorWrite, Outcome, owner_in}
use Rattle.write.specs.Write.{Written}
use Rattle.admits.specs.Bytes.{slot_as_shown, written_slot}
use Rattle.admits.specs.Admits.{entry_cluster, entry_value, entry_differs, entry_owner, turns_file, slot_before, as_parked, is_host, as_shown}
use Rattle.opens.specs.Opens.{opens}
use Rattle.demand1.specs.Sound.{Sound}
use Rattle.demand1.specs.StageChanges.{StageOnly}

-- one more sector taken; the other counts stay
pub record CountsTaken (n m : Stats) : Type 0 where
  pub ok : m.ok ≡ wrapping_next n.ok
  pub refused : m.refused ≡ n.refused
  pub busy : m.busy ≡ n.busy
  pub last_refused : m.last_refused ≡ n.last_refused
  pub deleted : m.deleted ≡ n.deleted
  pub fw_ok : m.fw_ok ≡ n.fw_ok
  pub fw_bad : m.fw_bad ≡ n.fw_bad

-- "sets the last time to the clock, at least 1, adds to the taken count, which goes round, and opens the session unless the sector was accepted
-- unchanged or nothing but dropped dates changed"; all else is as the place leaves it
pub record Taken (x : SectorWrite) (w : W) (r : Written) (o : Outcome) : Type 0 where
  pub state : r.w ≡ with_n (with_session (with_last o.w (max w.now_ms 1)) (opens x w || w.session)) r.w.n
  pub counts : CountsTaken w.n r.w.n
  pub ids : r.ids ≡ o.ids
  pub area : r.area ≡ o.area

-- one that doesn't open the session changes nothing else
pub record Same (x : SectorWrite) (w : W) (o : Outcome) : Type 0 where
  pub state : o.w ≡ w
  pub ids : o.ids ≡ x.ids
  pub area : o.area ≡ x.area

-- Boot: "only byte 0x25 may differ; it is kept"
pub record BootOnly (x : SectorWrite) (w : W) (o : Outcome) : Type 0 where
  pub state : o.w ≡ with_boot w (get_or x.written 0x25 0)
  pub ids : o.ids ≡ x.ids
  pub area : o.area ≡ x.area

-- FAT: "FAT[1] and pairs are set, 0 removes the pair and its staging slot, and files are marked freed", by changed entries of this sector alone
unfoldable pub entry_changed : SectorWrite → ℕ → ℕ → Bool
entry_changed x s k = some (λ i. entry_differs x i && eqb (entry_cluster s i) k) 256 0

-- the sector frees file j: one of its entries is changed, and live
unfoldable pub is_of : ℕ → Own → Bool
is_of j Reserved = false
is_of j Fixed = false
is_of j (Dyn k) = eqb k j
is_of j Free = false

unfoldable pub frees_file : SectorWrite → W → ℕ → ℕ → Bool
frees_file x w s j = some (λ i. entry_differs x i && (is_of j (entry_owner x w s i) && is_live x.ids w.pair j (entry_cluster s i))) 256 0

unfoldable pub frees_owner : SectorWrite → W → ℕ → Own → Bool
frees_owner x w s Reserved = false
frees_owner x w s Fixed = false
frees_owner x w s (Dyn j) = frees_file x w s j
frees_owner x w s Free = false

-- entry i sets the pair of its cluster: it is changed, isn't FAT[1], and is of no file that the sector frees
unfoldable pub sets_pair : SectorWrite → W → ℕ → ℕ → Bool
sets_pair x w s i = entry_differs x i && not (eqb (entry_cluster s i) 1) && not (frees_owner x w s (entry_owner x w s i))

unfoldable pub pair_set : SectorWrite → W → ℕ → ℕ → Bool
pair_set x w s k = some (λ i. sets_pair x w s i && eqb (entry_cluster s i) k) 256 0

-- it is removed where it is set to 0 and there was one
unfoldable pub is_value : Option ℕ → Bool
is_value (Some v) = true
is_value None = false

unfoldable pub pair_removed : SectorWrite → W → ℕ → ℕ → Bool
pair_removed x w s k =
    some (λ i. sets_pair x w s i && eqb (entry_cluster s i) k && eqb (entry_value x.written i) 0) 256 0 && is_value (pair_of w.pair k)

unfoldable pub pair_as : ℕ → Option ℕ
pair_as v = pick (eqb v 0) None (Some v)

pub record FatOnly (x : SectorWrite) (w : W) (s : ℕ) (o : Outcome) : Type 0 where
  -- nothing but FAT[1], pairs and staging slots
  pub state : o.w ≡ with_fat1 (with_pair (with_st w o.w.st) o.w.pair) o.w.fat1
  pub fat1-set : (i : ℕ) → i < 256 → entry_differs x i ≡ true → entry_cluster s i ≡ 1 → o.w.fat1 ≡ entry_value x.written i + 65536
  pub fat1 : entry_changed x s 1 ≡ false → o.w.fat1 ≡ w.fat1
  -- the pairs that are set are as written; every other one stays, and at its place
  pub pair-set : Sound w → (i : ℕ) → i < 256 → sets_pair x w s i ≡ true → pair_of o.w.pair (entry_cluster s i) ≡ pair_as (entry_value x.written i)
  pub pairs : (k : ℕ) → pair_set x w s k ≡ false → pair_of o.w.pair k ≡ pair_of w.pair k
  pub places : (n : ℕ) → ((get_or w.pair n pair0).c ≡ 0 → ⊥) → pair_set x w s (get_or w.pair n pair0).c ≡ false
      → get_or o.w.pair n pair0 ≡ get_or w.pair n pair0
  -- the clusters of a file that the sector frees get no pair: theirs are as before
  pub freed : (k j : ℕ) → owner_in x w k ≡ Dyn j → frees_file x w s j ≡ true → pair_of o.w.pair k ≡ pair_of w.pair k
  -- a removed pair's staging slot is free; every other slot stays
  pub slot-free : Sound w → (n : ℕ) → n < max_slots → pair_removed x w s (get_or w.st n no_st).c ≡ true → get_or o.w.st n no_st ≡ st0
  pub slots : (n : ℕ) → pair_removed x w s (get_or w.st n no_st).c ≡ false → get_or o.w.st n no_st ≡ get_or w.st n no_st
  pub ids : o.ids ≡ rows (λ j id. pick (frees_file x w s j) (set_bit id 13) id) x.ids
  pub area : o.area ≡ x.area

-- Root: the records of changed host slots of this sector, and no others
unfoldable pub stores_slot : SectorWrite → ℕ → ℕ → Bool
stores_slot x s i = leb 7 (s * 16 + i) && not (slot_as_shown x i)

unfoldable pub slot_stored : SectorWrite → ℕ → ℕ → Bool
slot_stored x s k = some (λ i. stores_slot x s i && eqb (s * 16 + i) k) 16 0

pub record RootOnly (x : SectorWrite) (w : W) (s : ℕ) (o : Outcome) : Type 0 where
  pub state : o.w ≡ with_rec w o.w.rec
  pub keeps : Sound w → (i : ℕ) → i < 16 → stores_slot x s i ≡ true → root_rec o.w.rec (s * 16 + i) ≡ record { found = true; e = written_slot x i }
  -- every other record stays, and at its place
  pub recs : (k : ℕ) → slot_stored x s k ≡ false → root_rec o.w.rec k ≡ root_rec w.rec k
  pub places : (n : ℕ) → ((get_or w.rec n no_rec).slot ≡ 0 → ⊥) → slot_stored x s (get_or w.rec n no_rec).slot ≡ false
      → get_or o.w.rec n no_rec ≡ get_or w.rec n no_rec
  pub ids : o.ids ≡ x.ids
  pub area : o.area ≡ x.area

-- Directory k: a turn "marks it turned, and moved if a staged sector already names it"
pub record DirOnly (x : SectorWrite) (w : W) (k s : ℕ) (o : Outcome) : Type 0 where
  pub state : o.w ≡ w
  pub ids : o.ids
      ≡ rows (λ j id. pick (turns_file x k s j)
      (pick (moved_ref x.fat x.area w.st (get_or x.starts j 0) (get_or x.sizes j 0)) (set_bit (set_bit id 12) 15) (set_bit id 12))
      id) x.ids
  pub area : o.area ≡ x.area

abbrev pub differs : SectorWrite → Type 0
differs x = as_shown x ≡ false

-- what a taken sector changes in its cluster: a host cluster's is staged, be it equal to the shown one or not, unless it is in a parked block what
-- `staged_read` shows; other data is never taken unless it is as shown
unfoldable pub InCluster : SectorWrite → W → ℕ → ℕ → Outcome → Option ℕ → Type 0
InCluster x w c s o (Some k) = differs x → DirOnly x w k s o
InCluster x w c s o None =
    (is_host x w c ≡ true → as_parked x (slot_before w c) s ≡ false → StageOnly x w c s o) × (is_host x w c ≡ false → differs x → ⊥)

-- what it changes by its place; none is taken outside the drive
unfoldable pub AtPlace : SectorWrite → W → Outcome → Place → Type 0
AtPlace x w o Boot = differs x → BootOnly x w o
AtPlace x w o (Fat s) = differs x → FatOnly x w s o
AtPlace x w o (Root s) = differs x → RootOnly x w s o
AtPlace x w o (Data c s) = InCluster x w c s o (dir_kind_of c)
AtPlace x w o Outside = ⊥
