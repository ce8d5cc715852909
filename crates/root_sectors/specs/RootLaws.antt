-- Laws of a written root sector.
use Rattle.std.specs.Prelude.{ℕ, ◌<◌, ◌+◌, ◌-◌, ◌*◌, Bool, true, false, List, ◌≡◌, Option, Some, None}
use Rattle.std.proofs.Common.{ap, ◌∙◌}
use Rattle.loops.specs.Loops.{first, first-start, some, count, count-start, fold, fold-start, fold-go}
use Rattle.loops.specs.Found.{find-lt}
use Rattle.loops.specs.Sought.{sought, sought-start, sought-here, sought-on}
use Rattle.records.specs.Records.{max_records, rec_idx, free_here, free_rec}
use Rattle.records.specs.RecordLaws.{rec_idx-lt}
use Rattle.records.specs.declared.Rec.{Rec}
use Rattle.slots.specs.Slots.{same_slot}
use Rattle.root_sectors.specs.Root.{RootWrite, place_of, slot_number, refused_at, kept_at, needs_rec}
use Rattle.root_sectors.specs.Records.{kept_in, keep_rec, kept_slot}

place-by : (recs : List Rec) (i : ℕ) (f : Option ℕ) → ((j : ℕ) → f ≡ Some j → j < max_records) → place_of recs f ≡ Some i → i < max_records
unfolding place_of free_rec
place-by recs i (Some k) g e = g i e
place-by recs i None g e = find-lt (free_here recs) max_records i e

-- the place where a slot is kept is one of the records'
pub place_of-lt : (recs : List Rec) (n i : ℕ) → place_of recs (rec_idx recs n) ≡ Some i → i < max_records
place_of-lt recs n i e = place-by recs i (rec_idx recs n) (λ j q. rec_idx-lt recs n j q) e

-- a slot that isn't kept changes nothing
slot-not-kept : (s : ℕ) (shown written : List ℕ) (i : ℕ) (recs : List Rec) → kept_slot s shown written i ≡ false → keep_rec s shown written i recs ≡ recs
unfolding keep_rec
slot-not-kept s shown written i recs e = rw e

slot-kept : (s : ℕ) (shown written : List ℕ) (i : ℕ) (recs : List Rec) → kept_slot s shown written i ≡ true
    → keep_rec s shown written i recs ≡ kept_in s written i recs
unfolding keep_rec
slot-kept s shown written i recs e = rw e

-- an unchanged slot is neither refused nor kept
pub same-refused : (x : RootWrite) (i : ℕ) → same_slot x.shown x.written (i * 32) ≡ true → refused_at x i ≡ false
unfolding slot_number
same-refused x i e = rw e

pub same-needs : (x : RootWrite) (i : ℕ) → same_slot x.shown x.written (i * 32) ≡ true → needs_rec x i ≡ false
unfolding needs_rec kept_at
same-needs x i e = rw e

-- The search for a refused slot, come to slot i with `need` places needed.
pub record Judging (x : RootWrite) (need i : ℕ) : Type 0 where
  pub refused : first (refused_at x) 16 0 ≡ first (refused_at x) (16 - i) i
  pub needed : count (needs_rec x) 16 0 ≡ need + count (needs_rec x) (16 - i) i

pub judging-start : (x : RootWrite) → Judging x 0 0
judging-start x = record { refused = first-start _ _; needed = count-start _ _ }

-- The changed host slots are kept, up to slot i: whether there was one, and the records then.
pub record Keeping (s : ℕ) (shown written : List ℕ) (recs : List Rec) (found : Bool) (now : List Rec) (i : ℕ) : Type 0 where
  pub any : some (kept_slot s shown written) 16 0 ≡ sought (kept_slot s shown written) 16 i found
  pub kept : fold (keep_rec s shown written) 16 0 recs ≡ fold (keep_rec s shown written) (16 - i) i now

module _ (s : ℕ) (shown written : List ℕ) (recs : List Rec) where
  pub keeping-start : Keeping s shown written recs false recs 0
  keeping-start = record { any = sought-start _ _; kept = fold-start _ _ _ }

  module _ (found : Bool) (now : List Rec) (i : ℕ) (h : i < 16) (p : Keeping s shown written recs found now i) where
    pub keeping-none : kept_slot s shown written i ≡ false → Keeping s shown written recs found now (i + 1)
    keeping-none e =
        record {
          any = sought-on (kept_slot s shown written) 16 i found _ p.any h e;
          kept = fold-go _ _ _ _ _ p.kept h ∙ ap (fold _ _ _) (slot-not-kept s shown written i now e);
        }

    pub keeping-one : kept_slot s shown written i ≡ true → Keeping s shown written recs true (kept_in s written i now) (i + 1)
    keeping-one e =
        record {
          any = sought-here (kept_slot s shown written) 16 i found _ p.any h e;
          kept = fold-go _ _ _ _ _ p.kept h ∙ ap (fold _ _ _) (slot-kept s shown written i now e);
        }
