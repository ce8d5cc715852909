-- A directory sector is taken by its handler exactly where the rules admit its bytes, and then turns the files that they say.
use Prim.Native.Nat.{ℕ, ◌+◌, ◌*◌, ◌<◌, ◌≤◌}
use Rattle.std.proofs.Math.Bool.{Bool, true, false, not}
use Rattle.std.specs.Prelude.{◌&&◌, ◌||◌, ◌≡◌, ltb, eqb, length, get_or, Option, Some, None}
use Rattle.std.proofs.Common.{true≢false, ◌∙◌}
use Rattle.std.proofs.lemmas.Bool.{false≢true}
use Rattle.std.proofs.Math.Path.{refl, sym, ap}
use native.Mathlib.Omega.{arith}
use borrow.Author.Tests.{ltb-true, ltb-false, lt-ltb, le-ltb, eqb-true, eqb-false, eq-eqb, ne_eqb, not-true}
use Rattle.loops.specs.Loops.{all, some, first}
use Rattle.loops.specs.Choices.{either, same-if, or-by, and-0, and-1, and-no}
use Rattle.loops.specs.Facts.{all-at, some-in, some-at}
use Rattle.loops.specs.Found.{found_below, find, found-by, find-lt, find-is, find-none, find-same}
use Rattle.loops.specs.Marks.{is_at, picked_by}
use Rattle.vdisk.specs.Ids.{kind_of, id_dir_of, dir_of as dir_of_kind}
use Rattle.slots.specs.Slots.{date_at, dates_only, turn_at}
use Rattle.root_slots.specs.OrLaws.{or-none}
use Rattle.dir_sectors.specs.Dir.{file_at, row_of, turned_by, is_found, slot_passes, dir_number, turns_row}
use Rattle.judge.specs.Classify.{SectorWrite, dir_of}
use Rattle.admits.specs.Bytes.{byte_as_shown, only_bytes, slot_of_byte, place_in_slot, in_field, date_byte}
use Rattle.admits.specs.Admits.{shown_in, unturned_at, turn_byte, turns_file, dir_admits}
use Rattle.admits.proofs.ByteLaws.{all-same, all-first, eqb-sym, slot-is, byte-is, by-slots, slot_dates, date-byte, dates-slot}
use Rattle.admits.proofs.ZeroLaws.{pass-pick}

-- the directory that shows a kind is one of three
shown-in : (kind k : ℕ) → kind < 4 → shown_in kind k ≡ eqb (dir_of_kind kind) k
unfolding shown_in dir_of_kind
shown-in kind k l =
    either (eqb kind 3)
    (λ e. let q = eqb-true kind 3 e in rw (e, le-ltb kind 3 (omega arith)) (eqb-sym k 0))
    (λ e. let q = eqb-false kind 3 e in rw (e, lt-ltb kind 3 (omega arith)) (or-none (eqb kind k) false refl))

shown-lt : (kind k : ℕ) → ltb k 3 ≡ false → shown_in kind k ≡ false
unfolding shown_in
shown-lt kind k e =
    let l = ltb-false k 3 e in
    rw (ne_eqb k 0 (λ q. omega arith), and-no (eqb kind 3) false refl)
    (or-none (ltb kind 3 && eqb kind k) false refl
    ∙ either (ltb kind 3) (λ q. let h = ltb-true kind 3 q in rw (q, ne_eqb kind k (λ z. omega arith))) (λ q. rw q))

-- something is found exactly where one is so
found-some : (p : ℕ → Bool) (n : ℕ) → is_found (find p n) ≡ some p n 0
unfolding is_found
found-some p n =
    found-by (find p n)
    (λ i e. let l = find-lt p n i e in rw e (sym (some-at p n 0 i (omega arith) (omega arith) (find-is p n i e))))
    (λ e. rw e (either (some p n 0)
    (λ t. some-in p n 0 t (λ j a b q. absurd (true≢false (sym q ∙ find-none p n j e (omega arith)))))
    (λ t. sym t)))

-- what is found is the first that is so
find-at : (p : ℕ → Bool) (n : ℕ) → is_found (find p n) ≡ true → find p n ≡ Some (first p n 0)
unfolding find found_below is_found
find-at p n e =
    either (ltb (first p n 0) n)
    (λ q. rw q)
    (λ q. let z : false ≡ true = rw q at e in absurd (false≢true z))

not-found : (f : Option ℕ) → is_found f ≡ false → f ≡ None
unfolding is_found
not-found (Some i) e = absurd (true≢false e)
not-found None e = refl

-- byte 0 is kept or turns a file, the others are kept or dates
slot-tests : (kept wrote was file others : Bool)
    → ((kept || (wrote && not was && file)) && others) ≡ (kept && others || (not was && wrote && others && file))
slot-tests true wrote was file true = refl
slot-tests true true true file false = refl
slot-tests true true false file false = refl
slot-tests true false true file false = refl
slot-tests true false false file false = refl
slot-tests false true true file others = refl
slot-tests false true false true true = refl
slot-tests false true false true false = refl
slot-tests false true false false true = refl
slot-tests false true false false false = refl
slot-tests false false true file others = refl
slot-tests false false false file others = refl

-- no date stands at byte 0
date-0 : date_byte 0 ≡ false
unfolding date_byte in_field
date-0 = refl

module _ (x : SectorWrite) (k s : ℕ) where
  unturned-same : (n j : ℕ) → file_at (dir_of x k s) n j ≡ unturned_at x k n j
  unfolding unturned_at file_at id_dir_of
  unturned-same n j = rw (shown-in (kind_of (get_or x.ids j 0)) k (omega arith))

  abbrev is_file : ℕ → Bool
  is_file i = some (unturned_at x k (s * 16 + i)) (length x.ids) 0

  no-file : (i : ℕ) → ltb k 3 ≡ false → is_file i ≡ false
  unfolding unturned_at
  no-file i e =
      either (is_file i)
      (λ t. some-in (unturned_at x k (s * 16 + i)) (length x.ids) 0 t
      (λ j a b q. absurd (true≢false (sym q ∙ rw (shown-lt (kind_of (get_or x.ids j 0)) k e)))))
      (λ t. t)

  turned-same : (i : ℕ) → is_found (turned_by (dir_of x k s) i) ≡ (turn_at x.shown x.written (i * 32) && is_file i)
  unfolding turned_by row_of is_found
  turned-same i =
      either (ltb k 3)
      (λ e. rw e (either (turn_at x.shown x.written (i * 32))
      (λ t. rw (t, find-same (file_at (dir_of x k s) (s * 16 + i)) (unturned_at x k (s * 16 + i)) (length x.ids) (λ j h. unturned-same (s * 16 + i) j))
      (found-some (unturned_at x k (s * 16 + i)) (length x.ids)))
      (λ t. rw t)))
      (λ e. rw (e, no-file i e, and-no (turn_at x.shown x.written (i * 32)) false refl))

  abbrev dir_byte : ℕ → Bool
  dir_byte n = byte_as_shown x n || (date_byte (place_in_slot n) || turn_byte x k s n)

  abbrev date_of : ℕ → ℕ → Bool
  date_of i b = byte_as_shown x (i * 32 + b) || date_byte b

  byte-0 : (i : ℕ) → dir_byte (i * 32 + 0)
      ≡ (byte_as_shown x (i * 32 + 0) || (eqb (get_or x.written (i * 32) 0) 0xE5 && not (eqb (get_or x.shown (i * 32) 0) 0xE5) && is_file i))
  unfolding date_byte in_field turn_byte
  byte-0 i =
      let q : i * 32 + 0 ≡ i * 32 = omega arith in
      rw (byte-is i 0 (omega arith), slot-is i 0 (omega arith), q)

  byte-b : (i b : ℕ) → 1 ≤ b → b < 32 → dir_byte (i * 32 + b) ≡ date_of i b
  unfolding turn_byte
  byte-b i b l h = rw (byte-is i b h, ne_eqb b 0 (λ q. omega arith), or-none (date_byte b) false refl)

  abbrev others : ℕ → Bool
  others i = all (date_of i) 31 1

  dates-first : (i : ℕ) → slot_dates x i ≡ (byte_as_shown x (i * 32 + 0) && others i)
  unfolding slot_dates
  dates-first i = all-first (date_of i) 31 0 ∙ ap (λ (b : Bool). b && others i) (no-date i)
    where
      no-date : (i : ℕ) → date_of i 0 ≡ byte_as_shown x (i * 32 + 0)
      no-date i = rw date-0 (or-none (byte_as_shown x (i * 32 + 0)) false refl)

  turn-first : (i : ℕ) → turn_at x.shown x.written (i * 32)
      ≡ (not (eqb (get_or x.shown (i * 32) 0) 0xE5) && eqb (get_or x.written (i * 32) 0) 0xE5 && others i)
  unfolding turn_at
  turn-first i = rw (all-same (date_of i) (date_at x.shown x.written (i * 32)) 31 1 (λ b l h. date-byte x i b (omega arith)))

  slot-pass : (i : ℕ) → all (λ b. dir_byte (i * 32 + b)) 32 0 ≡ slot_passes (dir_of x k s) i
  unfolding slot_passes
  slot-pass i =
      all-first (λ b. dir_byte (i * 32 + b)) 31 0
      ∙ rw (byte-0 i, all-same (λ b. dir_byte (i * 32 + b)) (date_of i) 31 1 (λ b l h. byte-b i b l (omega arith)))
      (slot-tests (byte_as_shown x (i * 32 + 0)) (eqb (get_or x.written (i * 32) 0) 0xE5) (eqb (get_or x.shown (i * 32) 0) 0xE5) (is_file i) (others i)
      ∙ rw (← dates-slot x i, dates-first i, turned-same i, turn-first i))

  pub dir-pass : eqb (dir_number (dir_of x k s)) 0 ≡ dir_admits x k s
  unfolding dir_number dir_admits only_bytes
  dir-pass =
      pass-pick (all (slot_passes (dir_of x k s)) 16 0) 9 refl
      ∙ sym (by-slots dir_byte ∙ all-same (λ i. all (λ b. dir_byte (i * 32 + b)) 32 0) (slot_passes (dir_of x k s)) 16 0 (λ i l h. slot-pass i))

  abbrev wrote : ℕ → Bool
  wrote i = eqb (get_or x.written (i * 32) 0) 0xE5

  abbrev was : ℕ → Bool
  was i = eqb (get_or x.shown (i * 32) 0) 0xE5

  turn-byte : (i : ℕ) → turn_byte x k s (i * 32) ≡ (wrote i && not (was i) && is_file i)
  unfolding turn_byte
  turn-byte i =
      let p : place_in_slot (i * 32) ≡ 0 = omega arith in
      let q : slot_of_byte (i * 32) ≡ i = omega arith in
      rw (p, q)

  found-turn : (i : ℕ) → is_found (turned_by (dir_of x k s) i) ≡ true → turn_byte x k s (i * 32) ≡ true
  found-turn i e =
      let t : (not (was i) && wrote i && others i && is_file i) ≡ true = rw (turned-same i, turn-first i) at e in
      let a = and-0 (not (was i) && wrote i) (others i) (and-0 (not (was i) && wrote i && others i) (is_file i) t) in
      rw (turn-byte i, and-1 (not (was i)) (wrote i) a, and-0 (not (was i)) (wrote i) a) (and-1 (not (was i) && wrote i && others i) (is_file i) t)

  -- a turn is more than dates
  turn-differs : (i : ℕ) → turn_byte x k s (i * 32) ≡ true → slot_dates x i ≡ false
  unfolding byte_as_shown
  turn-differs i e =
      let t : (wrote i && not (was i) && is_file i) ≡ true = rw (turn-byte i) at e in
      let a = and-0 (wrote i && not (was i)) (is_file i) t in
      let was-not = not-true (was i) (and-1 (wrote i) (not (was i)) a) in
      let q : i * 32 + 0 ≡ i * 32 = omega arith in
      let differs : byte_as_shown x (i * 32 + 0) ≡ false =
      rw (q, eqb-true (get_or x.written (i * 32) 0) 0xE5 (and-0 (wrote i) (not (was i)) a)) (eqb-sym 0xE5 (get_or x.shown (i * 32) 0) ∙ was-not) in
      dates-first i ∙ rw differs

  pub turn-dates : (i : ℕ) → is_found (turned_by (dir_of x k s) i) ≡ true → slot_dates x i ≡ false
  turn-dates i e = turn-differs i (found-turn i e)

  -- of a sector that is taken, a slot that turns no file differs in dates at most
  pub taken-dates : dir_number (dir_of x k s) ≡ 0 → (i : ℕ) → i < 16 → is_found (turned_by (dir_of x k s) i) ≡ false → slot_dates x i ≡ true
  unfolding dir_number slot_passes
  taken-dates n i h e =
      let a = sym (pass-pick (all (slot_passes (dir_of x k s)) 16 0) 9 refl) ∙ eq-eqb (dir_number (dir_of x k s)) 0 n in
      let p : (dates_only x.shown x.written (i * 32) || is_found (turned_by (dir_of x k s) i)) ≡ true =
      all-at (slot_passes (dir_of x k s)) 16 0 i a (omega arith) (omega arith) in
      or-by (dates_only x.shown x.written (i * 32)) (is_found (turned_by (dir_of x k s) i)) p
      (λ q. dates-slot x i ∙ q) (λ q. absurd (true≢false (sym q ∙ e)))

  -- of a sector that is taken, the handler turns a file by a slot exactly where the slot's byte 0 is a turn
  turn-found : dir_number (dir_of x k s) ≡ 0 → (i : ℕ) → i < 16 → is_found (turned_by (dir_of x k s) i) ≡ turn_byte x k s (i * 32)
  turn-found n i h =
      same-if (is_found (turned_by (dir_of x k s) i)) (turn_byte x k s (i * 32)) (found-turn i)
      (λ e. either (is_found (turned_by (dir_of x k s) i)) (λ q. q) (λ q. absurd (true≢false (sym (taken-dates n i h q) ∙ turn-differs i e))))

  abbrev first_file : ℕ → ℕ
  first_file i = first (unturned_at x k (s * 16 + i)) (length x.ids) 0

  -- which is the first unturned one there
  found-first : (i : ℕ) → is_found (turned_by (dir_of x k s) i) ≡ true → turned_by (dir_of x k s) i ≡ Some (first_file i)
  unfolding turned_by row_of is_found
  found-first i e =
      either (ltb k 3 && turn_at x.shown x.written (i * 32))
      (λ t. let f : find (file_at (dir_of x k s) (s * 16 + i)) (length x.ids) ≡ find (unturned_at x k (s * 16 + i)) (length x.ids) =
      find-same (file_at (dir_of x k s) (s * 16 + i)) (unturned_at x k (s * 16 + i)) (length x.ids) (λ j h. unturned-same (s * 16 + i) j) in
      rw (t, f) (find-at (unturned_at x k (s * 16 + i)) (length x.ids) (rw (t, f) at e)))
      (λ t. let z : false ≡ true = rw t at e in absurd (false≢true z))

  -- so its rows are the files that the rules say
  slot-turns : dir_number (dir_of x k s) ≡ 0 → (i j : ℕ) → i < 16 → is_at j (turned_by (dir_of x k s) i) ≡ (turn_byte x k s (i * 32) && eqb (first_file i) j)
  unfolding is_at
  slot-turns n i j h =
      either (turn_byte x k s (i * 32))
      (λ e. rw (e, found-first i (turn-found n i h ∙ e)))
      (λ e. rw (e, not-found (turned_by (dir_of x k s) i) (turn-found n i h ∙ e)))

  pub turns-file : dir_number (dir_of x k s) ≡ 0 → (j : ℕ) → turns_row (dir_of x k s) j ≡ turns_file x k s j
  unfolding turns_row picked_by turns_file
  turns-file n j =
      same-if (some turned 16 0) (some turns 16 0)
      (λ e. some-in turned 16 0 e (λ i l h q. some-at turns 16 0 i l h (sym (slot-turns n i j h) ∙ q)))
      (λ e. some-in turns 16 0 e (λ i l h q. some-at turned 16 0 i l h (slot-turns n i j h ∙ q)))
    where
      turned : ℕ → Bool
      turned i = is_at j (turned_by (dir_of x k s) i)

      turns : ℕ → Bool
      turns i = turn_byte x k s (i * 32) && eqb (first_file i) j
