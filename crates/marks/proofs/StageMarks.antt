-- What a staged sector does to a row's marks, and that what every call keeps is kept.
use Rattle.std.specs.Prelude.{ℕ, ◌/◌, ◌%◌, ◌<◌, Bool, true, ◌&&◌, ◌||◌, ◌≡◌, eqb, length, get_or, set, Option, Some, None}
use Rattle.std.proofs.Math.Bool.{false, not}
use mathlib.Core.List.{List}
use Rattle.std.proofs.Math.Path.{refl, ap}
use Rattle.std.proofs.Common.{sym, ◌∙◌, arith, pow_pos}
use Rattle.std.proofs.Math.Nat.{div-eq_of_lt}
use Rattle.loops.specs.Loops.{pick}
use Rattle.loops.specs.Choices.{pick-by, pick-has, and-no, and-1}
use Rattle.loops.specs.Keyed.{set-has}
use Rattle.loops.specs.Rows.{rows as rows_of, rows-at}
use Rattle.bits.specs.Bit.{bit, set_bit}
use Rattle.sector.specs.Bytes.{same, zeros}
use Rattle.vdisk.specs.Ids.{turned, freed, gone, moved}
use Rattle.vdisk.specs.IdLaws.{set-low}
use Rattle.file_table.specs.Table.{Table}
use Rattle.file_table.specs.Accepted.{Accepted}
use Rattle.slots.specs.Slots.{refers_to}
use Rattle.state.specs.State.{no_st}
use Rattle.state.specs.Setters.{with_st, with_staging, with_hint, with_stage_t, with_ver}
use Rattle.state.specs.Staged.{slot_of, free_slot}
use Rattle.state.specs.declared.w.St.{St}
use Rattle.state.specs.declared.w.W.{W}
use Rattle.medium.specs.Medium.{is_medium, has_block, next_free}
use Rattle.medium.specs.Reads.{sector_of}
use Rattle.staging.specs.Blocks.{is_parked, held_for, holding_st, written_st}
use Rattle.staging.specs.Staging.{StageWrite, Staged, refused, unchanged, slot_for, start_staging, with_slot, move_id, moved_ids, put_into, into_block, with_block, on_medium, in_slot, claimed, in_found, stage}
use Rattle.marks.specs.Seen.{start_in, size_in, parked_same, data_names}
use Rattle.marks.specs.Kept.{FreedAt, Kept}
use Rattle.marks.proofs.KeptLaws.{kept-as, kept-rows}
use Rattle.marks.specs.Does.{Does}
use Rattle.marks.proofs.DoesLaws.{does-refused, does-nothing, same-bit, lower-bit}

-- a slot just claimed has no parked block
zero-bit : (n : ℕ) → bit 0 n ≡ false
unfolding bit
zero-bit n = rw (div-eq_of_lt (pow_pos n))

fresh-slot : (c s : ℕ) → is_parked (slot_for c) s ≡ false
unfolding is_parked
fresh-slot c s = zero-bit (s / 8)

module _ (t : Table) (a : Accepted t) (ids : List ℕ) (w : W) (k : Kept t ids w) (c s : ℕ) (written : List ℕ) (busy : Bool) (fat area : List ℕ) where
  abbrev x : StageWrite
  x = record { c = c; s = s; written = written; busy = busy; fat = fat; area = area; ids = ids; starts = t.starts; sizes = t.sizes }

  -- the marks of row j
  module _ (j : ℕ) (l : j < length t.ids) where
    abbrev id : ℕ
    id = get_or ids j 0

    abbrev Moves : Bool → Staged → Type 0
    Moves b o = Does j o.number ids o.ids false false (turned id && b)

    zero-names : zeros written ≡ true → data_names t j written ≡ false
    unfolding data_names
    zero-names e = rw e

    names-as : zeros written ≡ false → data_names t j written ≡ refers_to written (start_in t j) (size_in t j)
    unfolding data_names
    names-as e = rw e

    moved-does : Does j 0 ids (moved_ids x) false false (turned id && data_names t j written)
    unfolding moved_ids move_id
    moved-does =
        let r = k.rows in
        let b = turned id && refers_to written (start_in t j) (size_in t j) in
        let at = rows-at (move_id x) ids j (omega arith) in
        pick-by (λ (after : List ℕ). Does j 0 ids after false false (turned id && data_names t j written)) (zeros written) ids (rows_of (move_id x) ids)
        (λ e. does-nothing j 0 ids false false (turned id && data_names t j written) refl refl (and-no (turned id) (data_names t j written) (zero-names e)))
        (λ e. record {
          turn = ap turned at ∙ lower-bit b id 15 12 (omega arith);
          free = ap freed at ∙ lower-bit b id 15 13 (omega arith);
          left = ap gone at ∙ lower-bit b id 15 14 (omega arith);
          move = ap moved at ∙ same-bit b id 15 ∙ ap (λ (q : Bool). (turned id && q) || moved id) (sym (names-as e));
        })

    into-does : (w' : W) (i : ℕ) (y : St) (b : ℕ) → Moves (data_names t j written) (into_block x w' i y b)
    unfolding into_block put_into
    into-does w' i y b =
        pick-has (Moves (data_names t j written)) (eqb (held_for y s) 0 || has_block fat area (held_for y s)) (put_into x w' i y b) (refused x 17 w')
        moved-does (does-refused j 17 ids false false (turned id && data_names t j written) refl)

    block-does : (w' : W) (i : ℕ) (y : St) → Moves (data_names t j written) (with_block x w' i y)
    unfolding with_block
    block-does w' i y =
        let f = next_free fat w'.hint in
        pick-has (Moves (data_names t j written)) (eqb (held_for y s) 0 || is_parked y s) _ (into_block x w' i y (held_for y s))
        (pick-has (Moves (data_names t j written)) f.found (into_block x (with_hint w' f.hint) i y f.block) (refused x 18 (with_hint w' f.hint))
        (into-does (with_hint w' f.hint) i y f.block) (does-refused j 18 ids false false (turned id && data_names t j written) refl))
        (into-does w' i y (held_for y s))

    medium-does : (w' : W) (i : ℕ) (y : St) → Moves (data_names t j written) (on_medium x w' i y)
    unfolding on_medium
    medium-does w' i y =
        let m = turned id && data_names t j written in
        pick-by (Moves (data_names t j written)) (eqb (held_for y s) 0 && zeros written)
        (record { number = 0; changed = true; w = with_slot w' i (written_st y s); area = area; ids = ids }) _
        (λ e. does-nothing j 0 ids false false m refl refl
        (and-no (turned id) (data_names t j written) (zero-names (and-1 (eqb (held_for y s) 0) (zeros written) e))))
        (λ e. pick-has (Moves (data_names t j written)) (is_medium fat area) (with_block x w' i y) (refused x 17 w') (block-does w' i y) (does-refused j 17 ids false false m refl))

    slot-does : (w' : W) (i : ℕ) (y : St) (b : Bool) → (is_parked y s && same (sector_of fat area y s) written) ≡ b
        → Moves (not b && data_names t j written) (in_slot x w' i y)
    unfolding in_slot
    slot-does w' i y b e =
        rw e (pick-by (λ (o : Staged). Moves (not b && data_names t j written) o) b (unchanged x w') (on_medium x (start_staging w') i y)
        (λ q. does-nothing j 0 ids false false (turned id && (not b && data_names t j written)) refl refl
        (and-no (turned id) (not b && data_names t j written) (rw q)))
        (λ q. rw q (medium-does (start_staging w') i y)))

    claimed-does : (f : Option ℕ) → Moves (data_names t j written) (claimed x w f)
    unfolding claimed
    claimed-does (Some i) =
        slot-does (with_st w (set w.st i (slot_for c))) i (slot_for c) false (rw (fresh-slot c s))
    claimed-does None = does-refused j 16 ids false false (turned id && data_names t j written) refl

    found-does : (f : Option ℕ) → Moves (not (parked_same fat area w.st s written f) && data_names t j written) (in_found x w f)
    unfolding in_found parked_same
    found-does (Some i) = slot-does w i (get_or w.st i no_st) (parked_same fat area w.st s written (Some i)) refl
    found-does None = claimed-does (free_slot w.st)

    pub stage-does : Moves (not (parked_same fat area w.st s written (slot_of w.st c)) && data_names t j written) (stage x w)
    unfolding stage
    stage-does =
        let b = not (parked_same fat area w.st s written (slot_of w.st c)) && data_names t j written in
        pick-has (Moves b) busy (refused x 19 w) (in_found x w (slot_of w.st c)) (does-refused j 19 ids false false (turned id && b) refl)
        (found-does (slot_of w.st c))

  -- a slot on a cluster of no file, or of one that is marked freed
  set-kept : (w' : W) (i : ℕ) (y : St) → Kept t ids w' → FreedAt t ids y.c → Kept t ids (with_st w' (set w'.st i y))
  unfolding with_st
  set-kept w' i y h q =
      record {
        rows = h.rows;
        first = h.first;
        names = h.names;
        pairs = h.pairs;
        slots = λ n. set-has (λ (z : St). FreedAt t ids z.c) no_st w'.st i n y (λ e. q) (h.slots n);
      }

  slot-kept : (w' : W) (i : ℕ) (y : St) → Kept t ids w' → FreedAt t ids y.c → Kept t ids (with_slot w' i y)
  unfolding with_ver
  slot-kept w' i y h q = let o = with_st w' (set w'.st i y) in kept-as t ids o (with_slot w' i y) (set-kept w' i y h q) refl refl refl

  moved-kept : (w' : W) → Kept t ids w' → Kept t (moved_ids x) w'
  unfolding moved_ids move_id
  moved-kept w' h =
      pick-has (λ (after : List ℕ). Kept t after w') (zeros written) ids (rows_of (move_id x) ids) h
      (kept-rows t a ids w' h (move_id x)
      (λ j id. pick-has (λ (n : ℕ). n % 4096 ≡ id % 4096) (turned id && refers_to written (start_in t j) (size_in t j)) (set_bit id 15) id (set-low id 15 (omega arith)) refl)
      (λ j id f. lower-bit (turned id && refers_to written (start_in t j) (size_in t j)) id 15 13 (omega arith) ∙ f))

  abbrev KeptIn : Staged → Type 0
  KeptIn o = Kept t o.ids o.w

  hint-kept : (w' : W) (n : ℕ) → Kept t ids w' → Kept t ids (with_hint w' n)
  unfolding with_hint
  hint-kept w' n h = kept-as t ids w' (with_hint w' n) h refl refl refl

  start-kept : (w' : W) → Kept t ids w' → Kept t ids (start_staging w')
  unfolding start_staging with_stage_t with_staging with_hint
  start-kept w' h =
      let o = pick w'.staging w' (with_hint (with_staging w' true) 2) in
      kept-as t ids o (start_staging w')
      (pick-has (Kept t ids) w'.staging w' (with_hint (with_staging w' true) 2) h (kept-as t ids w' (with_hint (with_staging w' true) 2) h refl refl refl)) refl refl refl

  module _ (i : ℕ) (y : St) (q : FreedAt t ids y.c) where
    into-kept : (w' : W) (b : ℕ) → Kept t ids w' → KeptIn (into_block x w' i y b)
    unfolding into_block put_into holding_st
    into-kept w' b h =
        pick-has KeptIn (eqb (held_for y s) 0 || has_block fat area (held_for y s)) (put_into x w' i y b) (refused x 17 w')
        (moved-kept (with_slot w' i (holding_st y s b)) (slot-kept w' i (holding_st y s b) h q)) h

    block-kept : (w' : W) → Kept t ids w' → KeptIn (with_block x w' i y)
    unfolding with_block
    block-kept w' h =
        let f = next_free fat w'.hint in
        let o = with_hint w' f.hint in
        pick-has KeptIn (eqb (held_for y s) 0 || is_parked y s) _ (into_block x w' i y (held_for y s))
        (pick-has KeptIn f.found (into_block x o i y f.block) (refused x 18 o) (into-kept o f.block (hint-kept w' f.hint h)) (hint-kept w' f.hint h))
        (into-kept w' (held_for y s) h)

    medium-kept : (w' : W) → Kept t ids w' → KeptIn (on_medium x w' i y)
    unfolding on_medium written_st
    medium-kept w' h =
        pick-has KeptIn (eqb (held_for y s) 0 && zeros written)
        (record { number = 0; changed = true; w = with_slot w' i (written_st y s); area = area; ids = ids }) _ (slot-kept w' i (written_st y s) h q)
        (pick-has KeptIn (is_medium fat area) (with_block x w' i y) (refused x 17 w') (block-kept w' h) h)

    in_slot-kept : (w' : W) → Kept t ids w' → KeptIn (in_slot x w' i y)
    unfolding in_slot
    in_slot-kept w' h =
        pick-has KeptIn (is_parked y s && same (sector_of fat area y s) written) (unchanged x w') (on_medium x (start_staging w') i y) h
        (medium-kept (start_staging w') (start-kept w' h))

  module _ (free : FreedAt t ids c) where
    claimed-kept : (f : Option ℕ) → KeptIn (claimed x w f)
    unfolding claimed
    claimed-kept (Some i) = in_slot-kept i (slot_for c) free (with_st w (set w.st i (slot_for c))) (set-kept w i (slot_for c) k free)
    claimed-kept None = k

    found-kept : (f : Option ℕ) → KeptIn (in_found x w f)
    unfolding in_found
    found-kept (Some i) = in_slot-kept i (get_or w.st i no_st) (k.slots i) w k
    found-kept None = claimed-kept (free_slot w.st)

    pub stage-kept : KeptIn (stage x w)
    unfolding stage
    stage-kept = pick-has KeptIn busy (refused x 19 w) (in_found x w (slot_of w.st c)) k (found-kept (slot_of w.st c))
