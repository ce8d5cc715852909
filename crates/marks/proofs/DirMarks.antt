-- What a directory sector does to a row's marks, and that what every call keeps is kept.
use Rattle.std.specs.Prelude.{ℕ, ◌+◌, ◌*◌, ◌/◌, ◌%◌, ◌<◌, Bool, true, not, ◌&&◌, ◌||◌, refl, Option, Some, None}
use Rattle.std.proofs.Math.Bool.{false}
use Rattle.std.proofs.lemmas.Bool.{false≢true}
use mathlib.Core.List.{List}
use Rattle.std.proofs.Math.Path.{◌≡◌, sym, ap}
use Rattle.std.proofs.Common.{◌∙◌}
use native.Mathlib.Omega.{arith}
use Rattle.std.proofs.Math.Dec.{ltb, eqb}
use Rattle.std.proofs.Math.ListN.{length, get_or}
use borrow.Author.Tests.{eqb-true, eqb-false, eq-eqb, not-true}
use Rattle.loops.specs.Loops.{all}
use Rattle.loops.specs.Choices.{either, pick-by, pick-has, picked, and-of, and-0, and-1, or-by, or-l, same-if}
use Rattle.loops.specs.Facts.{all-at, some-in, some-at}
use Rattle.loops.specs.Found.{find-lt, find-is}
use Rattle.loops.specs.Marks.{is_at, picked_by}
use Rattle.loops.specs.Rows.{rows as rows_of, rows-at}
use Rattle.bits.specs.Bit.{set_bit}
use Rattle.bits.specs.Laws.{bit-set-same, bit-set-above}
use Rattle.vdisk.specs.Ids.{turned, freed, gone, moved, id_dir_of}
use Rattle.vdisk.specs.IdLaws.{set-low, id_dir-low}
use Rattle.file_table.specs.Table.{Table, same_place}
use Rattle.file_table.specs.Accepted.{Accepted, one-place}
use Rattle.slots.specs.Slots.{first_byte, is_date, date_at, dates_only, turn_at}
use Rattle.state.specs.declared.w.W.{W}
use Rattle.medium.specs.Reads.{moved_ref}
use Rattle.dir_sectors.specs.Dir.{DirWrite, dir_write, file_at, row_of, turned_by, is_found, slot_passes, dir_number, turns_row, turn_id, dir_id, dir_ids}
use Rattle.marks.specs.Seen.{dir_in, slot_in, start_in, size_in, turned_in, turns_in}
use Rattle.marks.specs.Kept.{Kept}
use Rattle.marks.proofs.KeptLaws.{kept-rows}
use Rattle.marks.specs.Does.{Does}
use Rattle.marks.proofs.DoesLaws.{does-refused, is_at-is, is_at-of, same-bit, lower-bit}

-- a turn is no change of dates
turn-dates : (g d : List ℕ) (at : ℕ) → turn_at g d at ≡ true → dates_only g d at ≡ true → ⊥
unfolding turn_at dates_only date_at is_date
turn-dates g d at e q =
    let a = not (eqb (first_byte g at) 0xE5) in
    let b = eqb (first_byte d at) 0xE5 in
    let e1 = and-0 (a && b) (all (date_at g d at) 31 1) e in
    let z : at + 0 ≡ at = omega arith in
    or-by (eqb (get_or g (at + 0) 0) (get_or d (at + 0) 0)) false (all-at (date_at g d at) 32 0 0 q (omega arith) (omega arith))
    (λ p. eqb-false (first_byte g at) 0xE5 (not-true (eqb (first_byte g at) 0xE5) (and-0 a b e1))
    (eqb-true (first_byte g at) (first_byte d at) (rw z at p) ∙ eqb-true (first_byte d at) 0xE5 (and-1 a b e1)))
    (λ p. false≢true p)

found-is : {R : Type 0} (f : Option ℕ) → is_found f ≡ true → ((j : ℕ) → f ≡ Some j → R) → R
unfolding is_found
found-is (Some j) e g = g j refl
found-is None e g = absurd (false≢true e)

-- slot i of the sector turns row j
module _ (x : DirWrite) where
  record Turns (i j : ℕ) : Type 0 where
    row : j < length x.ids
    turn : turn_at x.shown x.written (i * 32) ≡ true
    dir : id_dir_of (get_or x.ids j 0) ≡ x.k
    slot : get_or x.slots j 0 ≡ x.s * 16 + i

  turned_by-is : (i j : ℕ) → turned_by x i ≡ Some j → Turns i j
  unfolding turned_by row_of file_at
  turned_by-is i j e =
      let l = ltb x.k 3 in
      let u = turn_at x.shown x.written (i * 32) in
      let n = x.s * 16 + i in
      let p = eqb (id_dir_of (get_or x.ids j 0)) x.k in
      let q = eqb (get_or x.slots j 0) n in
      picked (l && u) (row_of x n) None (Some j) e
      (λ b f.
      let c = and-0 (p && q) (not (turned (get_or x.ids j 0))) (find-is (file_at x n) (length x.ids) j f) in
      record {
        row = find-lt (file_at x n) (length x.ids) j f;
        turn = and-1 l u b;
        dir = eqb-true (id_dir_of (get_or x.ids j 0)) x.k (and-0 p q c);
        slot = eqb-true (get_or x.slots j 0) n (and-1 p q c);
      })
      (λ b (f : None ≡ Some j). let z : ◌≡◌ {A = ℕ} 0 1 = cc in absurd (omega arith))

module _ (t : Table) (a : Accepted t) (ids : List ℕ) (w : W) (k : Kept t ids w) (d s : ℕ) (shown written fat area : List ℕ) where
  abbrev x : DirWrite
  x = dir_write ids t.slots t.starts t.sizes d s shown written

  -- it stays in its directory
  dir-as : (j : ℕ) → j < length t.ids → id_dir_of (get_or ids j 0) ≡ dir_in t j
  dir-as j l = id_dir-low (get_or ids j 0) (get_or t.ids j 0) (k.names j l)

  -- the sector shows a turn of row j's slot
  abbrev seen : ℕ → Bool
  seen j = turns_in t j s shown written (Some d)

  -- no other row has that directory and slot
  turned-one : (i j j' : ℕ) → j < length t.ids → dir_in t j ≡ d → slot_in t j ≡ s * 16 + i → Turns x i j' → j' ≡ j
  unfolding same_place
  turned-one i j j' l p q v =
      let r = k.rows in
      let l' : j' < length t.ids = rw r at v.row in
      one-place t a j' j l' l
      (and-of (eqb (dir_in t j') (dir_in t j)) (eqb (slot_in t j') (slot_in t j))
      (eq-eqb (dir_in t j') (dir_in t j) (sym (dir-as j' l') ∙ v.dir ∙ sym p)) (eq-eqb (slot_in t j') (slot_in t j) (v.slot ∙ sym q)))

  seen-row : (j : ℕ) → j < length t.ids → all (slot_passes x) 16 0 ≡ true → seen j ≡ true → turns_row x j ≡ true
  unfolding turns_row picked_by turns_in turned_in slot_passes
  seen-row j l passes e =
      let i = slot_in t j % 16 in
      let y = eqb (slot_in t j / 16) s in
      let u = turn_at shown written (i * 32) in
      let yu = and-1 (eqb (dir_in t j) d) (y && u) e in
      let p = eqb-true (dir_in t j) d (and-0 (eqb (dir_in t j) d) (y && u) e) in
      let z = eqb-true (slot_in t j / 16) s (and-0 y u yu) in
      let q : slot_in t j ≡ s * 16 + i = omega arith in
      or-by (dates_only shown written (i * 32)) (is_found (turned_by x i)) (all-at (slot_passes x) 16 0 i passes (omega arith) (omega arith))
      (λ b. absurd (turn-dates shown written (i * 32) (and-1 y u yu) b))
      (λ b. found-is (turned_by x i) b
      (λ j' f. let o = turned-one i j j' l p q (turned_by-is x i j' f) in
      some-at (λ i'. is_at j (turned_by x i')) 16 0 i (omega arith) (omega arith) (is_at-of j (turned_by x i) (f ∙ ap Some o))))

  row-seen : (j : ℕ) → j < length t.ids → turns_row x j ≡ true → seen j ≡ true
  unfolding turns_row picked_by turns_in turned_in
  row-seen j l e =
      some-in (λ i. is_at j (turned_by x i)) 16 0 e
      (λ i lo hi q.
      let v = turned_by-is x i j (is_at-is j (turned_by x i) q) in
      let m = v.slot in
      let y : slot_in t j % 16 ≡ i = omega arith in
      and-of (eqb (dir_in t j) d) (eqb (slot_in t j / 16) s && turn_at shown written (slot_in t j % 16 * 32))
      (eq-eqb (dir_in t j) d (sym (dir-as j l) ∙ v.dir))
      (and-of (eqb (slot_in t j / 16) s) (turn_at shown written (slot_in t j % 16 * 32)) (eq-eqb (slot_in t j / 16) s (omega arith)) (rw y v.turn)))

  turns-as : (j : ℕ) → j < length t.ids → all (slot_passes x) 16 0 ≡ true → turns_row x j ≡ seen j
  turns-as j l passes = same-if (turns_row x j) (seen j) (row-seen j l) (seen-row j l passes)

  -- a staged sector names the file
  abbrev names : ℕ → Bool
  names j = moved_ref fat area w.st (start_in t j) (size_in t j)

  -- what a turn does to an id
  turn-marks : (j id : ℕ) → (turned (turn_id x fat area w.st j id) ≡ true) × (freed (turn_id x fat area w.st j id) ≡ freed id)
      × (gone (turn_id x fat area w.st j id) ≡ gone id) × (moved (turn_id x fat area w.st j id) ≡ (names j || moved id))
      × (turn_id x fat area w.st j id % 4096 ≡ id % 4096)
  unfolding turn_id
  turn-marks j id =
      let b = names j in
      let y = set_bit id 12 in (
        lower-bit b y 15 12 (omega arith) ∙ bit-set-same id 12,
        lower-bit b y 15 13 (omega arith) ∙ bit-set-above id 12 13 (omega arith),
        lower-bit b y 15 14 (omega arith) ∙ bit-set-above id 12 14 (omega arith),
        same-bit b y 15 ∙ ap (λ (c : Bool). b || c) (bit-set-above id 12 15 (omega arith)),
        pick-has (λ (n : ℕ). n % 4096 ≡ id % 4096) b (set_bit y 15) y (set-low y 15 (omega arith) ∙ set-low id 12 (omega arith)) (set-low id 12 (omega arith)),
      )

  -- the marks of row j
  pub dir-does : (j : ℕ) → j < length t.ids → Does j (dir_number x) ids (dir_ids x fat area w.st) (seen j) false (seen j && names j)
  unfolding dir_ids dir_number dir_id
  dir-does j l =
      let r = k.rows in
      let id = get_or ids j 0 in
      let at = rows-at (dir_id x fat area w.st) ids j (omega arith) in
      let m = turn-marks j id in
      either (all (slot_passes x) 16 0)
      (λ e. rw e (record {
        turn = ap turned at ∙ pick-by (λ (n : ℕ). turned n ≡ (seen j || turned id)) (turns_row x j) (turn_id x fat area w.st j id) id
            (λ q. m.0 ∙ sym (or-l (seen j) (turned id) (sym (turns-as j l e) ∙ q))) (λ q. rw (sym (turns-as j l e) ∙ q));
        free = ap freed at ∙ pick-has (λ (n : ℕ). freed n ≡ freed id) (turns_row x j) (turn_id x fat area w.st j id) id m.1 refl;
        left = ap gone at ∙ pick-has (λ (n : ℕ). gone n ≡ gone id) (turns_row x j) (turn_id x fat area w.st j id) id m.2 refl;
        move = ap moved at ∙ pick-by (λ (n : ℕ). moved n ≡ ((seen j && names j) || moved id)) (turns_row x j) (turn_id x fat area w.st j id) id
            (λ q. m.3 ∙ rw (sym (turns-as j l e) ∙ q)) (λ q. rw (sym (turns-as j l e) ∙ q));
      }))
      (λ e. rw e (does-refused j 9 ids (seen j) false (seen j && names j) refl))

  pub dir-kept : Kept t (dir_ids x fat area w.st) w
  unfolding dir_ids dir_id
  dir-kept =
      pick-has (λ (after : List ℕ). Kept t after w) (eqb (dir_number x) 0) (rows_of (dir_id x fat area w.st) ids) ids
      (kept-rows t a ids w k (dir_id x fat area w.st)
      (λ j id. pick-has (λ (n : ℕ). n % 4096 ≡ id % 4096) (turns_row x j) (turn_id x fat area w.st j id) id (turn-marks j id).4 refl)
      (λ j id f. pick-has (λ (n : ℕ). freed n ≡ true) (turns_row x j) (turn_id x fat area w.st j id) id ((turn-marks j id).1 ∙ f) f))
      k
