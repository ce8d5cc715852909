-- Laws of a written directory sector.
use Rattle.std.specs.Prelude.{ℕ, ◌+◌, ◌*◌, ◌<◌, ◌≤◌, Bool, not, ◌&&◌, ◌||◌, List, [], ◌∷◌, ◌≡◌, ltb, eqb, length, Option, Some, None}
use Rattle.std.proofs.Math.Bool.{true, false}
use Rattle.std.proofs.Math.Path.{refl}
use Rattle.std.proofs.lemmas.Bool.{false≢true}
use Rattle.std.proofs.Common.{sym, ◌∙◌, ap}
use native.Mathlib.Omega.{arith}
use Rattle.std.proofs.Math.ListN.{get_or}
use borrow.Author.Tests.{eqb-true, eq-eqb}
use Rattle.loops.specs.Loops.{pick, all, some}
use Rattle.loops.specs.Choices.{either, picked, and-no, or-l, or-r}
use Rattle.loops.specs.Facts.{all-at, all-of, some-in, some-at}
use Rattle.loops.specs.Found.{find, find-lt}
use Rattle.loops.specs.Rows.{rows as rows_of, rows_from, rows-same}
use Rattle.loops.specs.Marks.{Marks, is_at, picked_by, marked}
use Rattle.bits.specs.Bit.{set_bit}
use Rattle.file_table.specs.Table.{max_files}
use Rattle.slots.specs.Slots.{is_date, same_byte, same_slot, date_at, dates_only, turn_at}
use Rattle.state.specs.declared.w.St.{St}
use Rattle.medium.specs.Reads.{moved_ref}
use Rattle.dir_sectors.specs.Turned.{mark_id}
use Rattle.dir_sectors.specs.Dir.{DirWrite, file_at, row_of, turned_by, is_found, slot_passes, turns_row, turn_id, dir_id}

-- a slot that turns a file passes; one that turns none passes by its dates
pub turn-passes : (x : DirWrite) (i j : ℕ) → turned_by x i ≡ Some j → slot_passes x i ≡ true
unfolding slot_passes is_found
turn-passes x i j e = or-r (dates_only x.shown x.written (i * 32)) (is_found (turned_by x i)) (rw e)

pub dates-pass : (x : DirWrite) (i : ℕ) → turned_by x i ≡ None → slot_passes x i ≡ dates_only x.shown x.written (i * 32)
unfolding slot_passes is_found
dates-pass x i e = rw e (or-none (dates_only x.shown x.written (i * 32)))
  where
    or-none : (b : Bool) → (b || false) ≡ b
    or-none true = refl
    or-none false = refl

-- an unchanged slot is no turn, and differs in dates at most: it passes
module _ (shown written : List ℕ) (at : ℕ) (same : same_slot shown written at ≡ true) where
  same-byte : (i : ℕ) → i < 32 → get_or shown (at + i) 0 ≡ get_or written (at + i) 0
  unfolding same_slot
  same-byte i h = eqb-true (get_or shown (at + i) 0) (get_or written (at + i) 0) (all-at (same_byte shown written at) 32 0 i same (omega arith) (omega arith))

  same-dates : dates_only shown written at ≡ true
  unfolding dates_only date_at
  same-dates =
      all-of (date_at shown written at) 32 0
      (λ i a b. or-l (same_byte shown written at i) (is_date i) (eq-eqb (get_or shown (at + i) 0) (get_or written (at + i) 0) (same-byte i (omega arith))))

  same-turn : turn_at shown written at ≡ false
  unfolding turn_at
  same-turn =
      let e : at + 0 ≡ at = omega arith in
      let q : get_or shown at 0 ≡ get_or written at 0 = rw e at (same-byte 0 (omega arith)) in
      rw q (not-and (eqb (get_or written at 0) 0xE5) (all (date_at shown written at) 31 1))
    where
      not-and : (b c : Bool) → (not b && b && c) ≡ false
      not-and true c = refl
      not-and false c = refl

pub same-turns-none : (x : DirWrite) (i : ℕ) → same_slot x.shown x.written (i * 32) ≡ true → turned_by x i ≡ None
unfolding turned_by
same-turns-none x i e =
    rw (same-turn x.shown x.written (i * 32) e, and-no (ltb x.k 3) false refl)

pub same-passes : (x : DirWrite) (i : ℕ) → same_slot x.shown x.written (i * 32) ≡ true → slot_passes x i ≡ true
unfolding slot_passes
same-passes x i e = or-l (dates_only x.shown x.written (i * 32)) (is_found (turned_by x i)) (same-dates x.shown x.written (i * 32) e)

-- the row that a slot turns is one of the table
pub turned_by-lt : (x : DirWrite) (i j : ℕ) → turned_by x i ≡ Some j → j < length x.ids
unfolding turned_by row_of
turned_by-lt x i j e =
    picked (ltb x.k 3 && turn_at x.shown x.written (i * 32)) (find (file_at x (x.s * 16 + i)) (length x.ids)) None (Some j) e
    (λ p q. find-lt (file_at x (x.s * 16 + i)) (length x.ids) j q)
    (λ p (q : None ≡ Some j). let z : ◌≡◌ {A = ℕ} 0 1 = cc in absurd (omega arith))

-- where no slot turns a file, every row stays as it is
rows-stay : (f : ℕ → ℕ → ℕ) (i : ℕ) (ids : List ℕ) → ((j id : ℕ) → f j id ≡ id) → rows_from f i ids ≡ ids
unfolding rows_from
rows-stay f i [] h = refl
rows-stay f i (id ∷ ids) h = rw (h i id, rows-stay f (i + 1) ids h)

row-found : (j : ℕ) (r : Option ℕ) → is_at j r ≡ true → is_found r ≡ true
unfolding is_at is_found
row-found j (Some k) p = refl
row-found j None p = absurd (false≢true p)

pub none-turned : (x : DirWrite) (fat area : List ℕ) (st : List St) → some (λ i. is_found (turned_by x i)) 16 0 ≡ false
    → rows_of (dir_id x fat area st) x.ids ≡ x.ids
unfolding dir_id turns_row picked_by
none-turned x fat area st e =
    rows-stay (dir_id x fat area st) 0 x.ids
    (λ j id. either (turns_row x j) (λ t. some-in (λ i. is_at j (turned_by x i)) 16 0 t (λ i a b p. absurd (false≢true (sym e
    ∙ some-at (λ k. is_found (turned_by x k)) 16 0 i a b (row-found j (turned_by x i) p))))) (λ f. rw f))

-- marking the rows that are marked 1 turns those that the sector turns
pub turned-ids : (x : DirWrite) (fat area : List ℕ) (st : List St) (rows : List ℕ) → Marks (turned_by x) max_files 16 rows → length x.ids ≤ max_files
    → rows_of (mark_id rows x.starts x.sizes fat area st) x.ids ≡ rows_of (dir_id x fat area st) x.ids
unfolding mark_id dir_id turn_id turns_row
turned-ids x fat area st rows m l =
    rows-same (mark_id rows x.starts x.sizes fat area st) (dir_id x fat area st) x.ids
    (λ j id h. ap (λ (b : Bool). pick b (pick (moved_ref fat area st (get_or x.starts j 0) (get_or x.sizes j 0)) (set_bit (set_bit id 12) 15) (set_bit id 12)) id)
    (marked (turned_by x) max_files 16 rows m j (omega arith)))
