-- The records that a root sector leaves, by themselves: of the state it changes nothing else.
use Rattle.std.specs.Prelude.{ℕ, ◌+◌, ◌*◌, Bool, not, ◌&&◌, List, leb, eqb, take, drop, set, Option, Some, None}
use Rattle.loops.specs.Loops.{pick, fold}
use Rattle.slots.specs.Slots.{same_slot}
use Rattle.records.specs.Records.{rec_idx}
use Rattle.records.specs.declared.Rec.{Rec}
use Rattle.root_sectors.specs.Root.{RootWrite, changed_slot, root_number, place_of}

-- a record put into its place
unfoldable pub put_in : List Rec → Rec → Option ℕ → List Rec
put_in recs r (Some k) = set recs k r
put_in recs r None = recs

-- slot i as written is kept there
unfoldable pub kept_in : ℕ → List ℕ → ℕ → List Rec → List Rec
kept_in s written i recs = put_in recs (record { slot = s * 16 + i; e = take 32 (drop (i * 32) written) }) (place_of recs (rec_idx recs (s * 16 + i)))

-- where it is a changed host slot
unfoldable pub keep_rec : ℕ → List ℕ → List ℕ → ℕ → List Rec → List Rec
keep_rec s shown written i recs = pick (not (same_slot shown written (i * 32)) && not (leb (s * 16 + i) 6)) (kept_in s written i recs) recs

-- slot i is a changed host slot
abbrev pub kept_slot : ℕ → List ℕ → List ℕ → ℕ → Bool
kept_slot s shown written i = changed_slot shown written i && not (leb (s * 16 + i) 6)

unfoldable pub root_records : RootWrite → List Rec
root_records x = pick (eqb (root_number x) 0) (fold (keep_rec x.s x.shown x.written) 16 0 x.recs) x.recs
