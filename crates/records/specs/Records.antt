-- The host's records in the root: raw slots, each with the root slot that it stands for (`root_rec`).
use Rattle.std.specs.Prelude.{ℕ, Bool, true, false, not, ◌&&◌, List, [], eqb, get_or, replicate, Option, Some, None}
use Rattle.loops.specs.Loops.{count}
use Rattle.loops.specs.Found.{find}
use Rattle.records.specs.declared.Rec.{Rec}

-- 10 places
abbrev pub max_records : ℕ
max_records = 10

-- what stands past the last place, which no search reads
abbrev pub no_rec : Rec
no_rec = record { slot = 0; e = [] }

-- a place that is not in use
abbrev pub rec0 : Rec
rec0 = record { slot = 0; e = replicate 32 0 }

-- it is in use, for root slot k
unfoldable pub is_rec : Rec → ℕ → Bool
is_rec r k = not (eqb r.slot 0) && eqb r.slot k

abbrev pub rec_here : List Rec → ℕ → ℕ → Bool
rec_here recs k i = is_rec (get_or recs i no_rec) k

-- the first place for root slot k
unfoldable pub rec_idx : List Rec → ℕ → Option ℕ
rec_idx recs k = find (rec_here recs k) max_records

-- the first free place, and how many there are
abbrev pub free_here : List Rec → ℕ → Bool
free_here recs i = eqb (get_or recs i no_rec).slot 0

unfoldable pub free_rec : List Rec → Option ℕ
free_rec recs = find (free_here recs) max_records

unfoldable pub free_recs : List Rec → ℕ
free_recs recs = count (free_here recs) max_records 0

-- is there a record for a root slot, and its bytes
pub record RootRec : Type 0 where
  pub found : Bool
  pub e : List ℕ

-- `root_rec`: is there a record for root slot k, and its 32 bytes, zeros where there is none
unfoldable pub root_rec_at : List Rec → Option ℕ → RootRec
root_rec_at recs (Some i) = record { found = true; e = (get_or recs i no_rec).e }
root_rec_at recs None = record { found = false; e = replicate 32 0 }

unfoldable pub root_rec : List Rec → ℕ → RootRec
root_rec recs k = root_rec_at recs (rec_idx recs k)
