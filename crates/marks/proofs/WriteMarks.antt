-- What one write does to the four marks of a row, and that what every call keeps is kept.
use Rattle.std.specs.Prelude.{ℕ, ◌+◌, ◌*◌, ◌/◌, ◌%◌, ◌<◌, Bool, true, ◌&&◌, ◌||◌, List, ◌≡◌, leb, length, get_or, Option, Some, None}
use Rattle.std.proofs.Math.Bool.{false, not}
use Rattle.std.proofs.Math.Path.{refl, sym}
use Rattle.std.proofs.Common.{◌∙◌}
use Rattle.std.proofs.Math.Dec.{eqb}
use borrow.Author.Tests.{eqb-true, not-false}
use Rattle.loops.specs.Loops.{all, fold}
use Rattle.loops.specs.Choices.{pick-by, pick-has, and-no, and-0, and-1}
use Rattle.loops.specs.Facts.{fold-keeps}
use Rattle.sector.specs.Bytes.{same}
use Rattle.sector.specs.Laws.{same-is}
use Rattle.vdisk.specs.Ids.{turned}
use Rattle.vdisk.specs.Drive.{place_of, dir_kind_of}
use Rattle.vdisk.specs.declared.drive.Place.{Place}
use Rattle.vdisk.specs.declared.drive.Place.TheVariants.{Boot, Fat, Root, Data, Outside}
use Rattle.vdisk.specs.declared.owner.Own.{Own}
use Rattle.vdisk.specs.declared.owner.Own.TheVariants.{Reserved, Fixed, Dyn, Free}
use Rattle.file_table.specs.Table.{Table, accepts}
use Rattle.file_table.specs.Accepted.{Accepted, accepted}
use Rattle.slots.specs.Slots.{first_byte, same_slot, date_at, turn_at}
use Rattle.records.specs.declared.Rec.{Rec}
use Rattle.state.specs.Setters.{with_rec, with_boot, with_session, with_last, with_err, with_n}
use Rattle.state.specs.Staged.{slot_of}
use Rattle.state.specs.declared.w.W.{W}
use Rattle.medium.specs.Reads.{moved_ref}
use Rattle.clusters.specs.Clusters.{host_cluster}
use Rattle.fat_sectors.specs.Fat.{FatWrite, fat_write, fat_state, fat_ids}
use Rattle.root_sectors.specs.Root.{root_number, root_state, keep_slot, keep_at, put_at}
use Rattle.staging.specs.Staging.{stage}
use Rattle.judge.specs.Classify.{SectorWrite, Outcome, refused, unless_shown, boot_passes, boot, fat_of, fat, root_of, root, dir, data_number, other_data, owner_in, stage_of, outcome_of, cluster, at_place, classify}
use Rattle.write.specs.Write.{taken_state, refused_state, settled_state, Written, settled, unjudged, whole_sectors, table_fits, write}
use Rattle.marks.specs.Seen.{dir_in, slot_in, start_in, size_in, turned_in, turns_in, turns_at, turns_slot, all_zero, zeroes_in, zeroes_at, zeroes_entries, parked_same, stages_in, stages_at, data_names, stages_name}
use Rattle.marks.specs.Kept.{Kept}
use Rattle.marks.proofs.KeptLaws.{kept-as, host-freed}
use Rattle.marks.specs.Does.{Does}
use Rattle.marks.proofs.DoesLaws.{does-refused, does-nothing, does-as}
use Rattle.marks.proofs.FatMarks.{fat-does, fat-kept}
use Rattle.marks.proofs.DirMarks.{dir-does, dir-kept}
use Rattle.marks.proofs.StageMarks.{stage-does, stage-kept}

-- A turn moves the file where a staged sector names it already; data that names it, staged after the turn, moves it too.
unfoldable pub moves_file : Table → ℕ → SectorWrite → W → Bool
moves_file t j x w =
    (turns_slot t j x && moved_ref x.fat x.area w.st (start_in t j) (size_in t j)) || (turned (get_or x.ids j 0) && stages_name t j x w)

-- the sector is written on this table
pub record OnTable (t : Table) (x : SectorWrite) : Type 0 where
  pub slots : x.slots ≡ t.slots
  pub starts : x.starts ≡ t.starts
  pub sizes : x.sizes ≡ t.sizes

not-self : (b : Bool) → (b && not b) ≡ false
not-self true = refl
not-self false = refl

not-self' : (b c : Bool) → (not b && b && c) ≡ false
not-self' true c = refl
not-self' false c = refl

or-none : (b c : Bool) → c ≡ false → (b || c) ≡ b
or-none true c e = refl
or-none false c e = e

-- a sector that is as shown neither turns nor zeroes
turned-same : (t : Table) (j s : ℕ) (d : List ℕ) → turned_in t j s d d ≡ false
unfolding turned_in turn_at
turned-same t j s d =
    let at = slot_in t j % 16 * 32 in
    and-no (eqb (slot_in t j / 16) s) (turn_at d d at) (not-self' (eqb (first_byte d at) 0xE5) (all (date_at d d at) 31 1))

zeroes-same : (t : Table) (j s : ℕ) (d : List ℕ) → zeroes_in t j s d d ≡ false
unfolding zeroes_in
zeroes-same t j s d = not-self (all_zero t.starts t.sizes j s d)

number-not-0 : (o : Own) → eqb (data_number o) 0 ≡ false
unfolding data_number
number-not-0 Reserved = refl
number-not-0 Fixed = refl
number-not-0 (Dyn j) = refl
number-not-0 Free = refl

module _ (t : Table) (a : Accepted t) (x : SectorWrite) (on : OnTable t x) (w : W) (k : Kept t x.ids w) where
  module _ (j : ℕ) (l : j < length t.ids) (long : length x.shown ≡ length x.written) where
    abbrev names : Bool
    names = moved_ref x.fat x.area w.st (start_in t j) (size_in t j)

    abbrev id : ℕ
    id = get_or x.ids j 0

    abbrev Marked : Bool → Bool → Bool → Outcome → Type 0
    Marked tu ze mo o = Does j o.number x.ids o.ids tu ze mo

    unless-does : (tu ze mo : Bool) (o : Outcome) → (x.shown ≡ x.written → tu ≡ false) → (x.shown ≡ x.written → ze ≡ false) → (x.shown ≡ x.written → mo ≡ false)
        → Marked tu ze mo o → Marked tu ze mo (unless_shown x w o)
    unfolding unless_shown
    unless-does tu ze mo o f g h d =
        pick-by (Marked tu ze mo) (same x.shown x.written) (record { number = 0; changed = false; w = w; ids = x.ids; area = x.area }) o
        (λ e. let q = same-is x.shown x.written long e in does-nothing j 0 x.ids tu ze mo (f q) (g q) (h q))
        (λ e. d)

    -- what a place holds of the file
    abbrev moves_in : Bool → Bool → Bool
    moves_in tu st = (tu && names) || (turned id && (st && data_names t j x.written))

    -- neither turned nor staged: not moved
    no-moves : (tu st : Bool) → tu ≡ false → st ≡ false → moves_in tu st ≡ false
    no-moves tu st p q = rw (p, q) (and-no (turned id) false refl)

    turns-same : (s : ℕ) (d : Option ℕ) → x.shown ≡ x.written → turns_in t j s x.shown x.written d ≡ false
    unfolding turns_in
    turns-same s (Some n) e = rw e (and-no (eqb (dir_in t j) n) (turned_in t j s x.written x.written) (turned-same t j s x.written))
    turns-same s None e = refl

    cluster-does : (c s : ℕ) (d : Option ℕ)
        → Marked (turns_in t j s x.shown x.written d) false (moves_in (turns_in t j s x.shown x.written d) (stages_in x w c s d)) (cluster x w c s d)
    unfolding cluster turns_in stages_in dir other_data
    cluster-does c s (Some n) =
        let tu = turns_in t j s x.shown x.written (Some n) in
        unless-does tu false (moves_in tu false) (dir x w n s) (turns-same s (Some n)) (λ e. refl) (λ e. no-moves tu false (turns-same s (Some n) e) refl)
        (rw (on.slots, on.starts, on.sizes)
        (does-as j _ x.ids _ tu tu false false (moves_in tu false) (tu && names) refl refl (or-none (tu && names) (turned id && false) (and-no (turned id) false refl))
        (dir-does t a x.ids w k n s x.shown x.written x.fat x.area j l)))
    cluster-does c s None =
        let h = host_cluster x.ids x.starts x.sizes w.first w.pair c in
        let p = not (parked_same x.fat x.area w.st s x.written (slot_of w.st c)) in
        pick-by (Marked false false (turned id && ((h && p) && data_names t j x.written))) h (outcome_of (stage (stage_of x c s) w)) (unless_shown x w (other_data x w c))
        (λ e. rw (e, on.starts, on.sizes) (stage-does t a x.ids w k c s x.written x.busy x.fat x.area j l))
        (λ e. rw e (unless-does false false (turned id && false) (other_data x w c) (λ q. refl) (λ q. refl) (λ q. and-no (turned id) false refl)
        (does-refused j (data_number (owner_in x w c)) x.ids false false (turned id && false) (number-not-0 (owner_in x w c)))))

    -- a place that is no directory or cluster, where nothing turns
    plain-does : (ze : Bool) (o : Outcome) → (x.shown ≡ x.written → ze ≡ false) → Marked false ze false o → Marked false ze (turned id && false) (unless_shown x w o)
    plain-does ze o f d =
        let z = and-no (turned id) false refl in
        unless-does false ze (turned id && false) o (λ q. refl) f (λ q. z) (does-as j o.number x.ids o.ids false false ze ze (turned id && false) false refl refl z d)

    place-does : (p : Place)
        → Marked (turns_at t j x.shown x.written p) (zeroes_at t j x.shown x.written p)
        (moves_in (turns_at t j x.shown x.written p) (stages_at x w p)) (at_place x w p)
    unfolding at_place turns_at zeroes_at stages_at boot fat root
    place-does Boot =
        plain-does false (boot x w) (λ e. refl)
        (pick-has (Marked false false false) (boot_passes x.shown x.written) (record { number = 0; changed = true; w = with_boot w (get_or x.written 0x25 0); ids = x.ids; area = x.area })
        (refused x w 3) (does-nothing j 0 x.ids false false false refl refl refl) (does-nothing j 3 x.ids false false false refl refl refl))
    place-does (Fat s) =
        plain-does (zeroes_in t j s x.shown x.written) (fat x w s) (λ e. rw e (zeroes-same t j s x.written))
        (rw (on.starts, on.sizes, k.first) (fat-does t a x.ids w k s x.shown x.written j l))
    place-does (Root s) = plain-does false (root x w s) (λ e. refl) (does-nothing j (root_number (root_of x w s)) x.ids false false false refl refl refl)
    place-does (Data c s) = cluster-does c s (dir_kind_of c)
    place-does Outside = does-refused j 2 x.ids false false (turned id && false) refl

    classify-does : Marked (turns_slot t j x) (zeroes_entries t j x) (moves_file t j x w) (classify x w)
    unfolding classify turns_slot zeroes_entries moves_file stages_name
    classify-does = place-does (place_of x.lba)

  -- the marks of row j after a write
  does : (j : ℕ) → j < length t.ids → Does j (write x w).number x.ids (write x w).ids (turns_slot t j x) (zeroes_entries t j x) (moves_file t j x w)
  unfolding write whole_sectors
  does j l =
      let tu = turns_slot t j x in
      let ze = zeroes_entries t j x in
      let mo = moves_file t j x w in
      let P : Written → Type 0 = λ r. Does j r.number x.ids r.ids tu ze mo in
      let m = eqb (length x.shown) 512 in
      let n = eqb (length x.written) 512 in
      pick-by P (not (whole_sectors x)) (unjudged x w 1) _ (λ e. does-refused j 1 x.ids tu ze mo refl)
      (λ e. let q = not-false (m && n) e in
      let long = eqb-true (length x.shown) 512 (and-0 m n q) ∙ sym (eqb-true (length x.written) 512 (and-1 m n q)) in
      pick-has P (not (table_fits x w)) (unjudged x w 10) _ (does-refused j 10 x.ids tu ze mo refl)
      (pick-has P (not w.rw) (settled x (refused x w 12)) (settled x (classify x w)) (does-refused j 12 x.ids tu ze mo refl)
      (classify-does j l long)))

  abbrev KeptIn : Outcome → Type 0
  KeptIn o = Kept t o.ids o.w

  unless-kept : (o : Outcome) → KeptIn o → KeptIn (unless_shown x w o)
  unfolding unless_shown
  unless-kept o h = pick-has KeptIn (same x.shown x.written) (record { number = 0; changed = false; w = w; ids = x.ids; area = x.area }) o k h

  -- records touch none of it
  put-kept : (w' : W) (r : Rec) (f : Option ℕ) → Kept t x.ids w' → Kept t x.ids (put_at w' r f)
  unfolding put_at with_rec
  put-kept w' r (Some n) h = kept-as t x.ids w' (put_at w' r (Some n)) h refl refl refl
  put-kept w' r None h = h

  root-kept : (s : ℕ) → Kept t x.ids (root_state (root_of x w s) w)
  unfolding root_state keep_slot
  root-kept s =
      pick-has (Kept t x.ids) (eqb (root_number (root_of x w s)) 0) (fold (keep_at (root_of x w s)) 16 0 w) w
      (fold-keeps (Kept t x.ids) (keep_at (root_of x w s))
      (λ i w' h. pick-has (Kept t x.ids) (not (same_slot x.shown x.written (i * 32)) && not (leb (s * 16 + i) 6)) _ w' (put-kept w' _ _ h) h) 16 0 w k)
      k

  boot-kept : KeptIn (boot x w)
  unfolding boot with_boot
  boot-kept =
      let o = with_boot w (get_or x.written 0x25 0) in
      pick-has KeptIn (boot_passes x.shown x.written) (record { number = 0; changed = true; w = o; ids = x.ids; area = x.area }) (refused x w 3)
      (kept-as t x.ids w o k refl refl refl) k

  cluster-kept : (c s : ℕ) (d : Option ℕ) → KeptIn (cluster x w c s d)
  unfolding cluster dir other_data
  cluster-kept c s (Some n) =
      unless-kept (dir x w n s) (rw (on.slots, on.starts, on.sizes) (dir-kept t a x.ids w k n s x.shown x.written x.fat x.area))
  cluster-kept c s None =
      let h = host_cluster x.ids x.starts x.sizes w.first w.pair c in
      pick-by KeptIn h (outcome_of (stage (stage_of x c s) w)) (unless_shown x w (other_data x w c))
      (λ e. rw (on.starts, on.sizes)
      (stage-kept t a x.ids w k c s x.written x.busy x.fat x.area (host-freed t x.ids w k c (rw (on.starts, on.sizes, k.first) at e))))
      (λ e. unless-kept (other_data x w c) k)

  fat-as : (s : ℕ) (f : FatWrite) → f ≡ fat_write x.ids t.starts t.sizes t.first w.pair s x.shown x.written → Kept t (fat_ids f) (fat_state f w)
  fat-as s f e = rw e (fat-kept t a x.ids w k s x.shown x.written)

  place-kept : (p : Place) → KeptIn (at_place x w p)
  unfolding at_place fat root
  place-kept Boot = unless-kept (boot x w) boot-kept
  place-kept (Fat s) = unless-kept (fat x w s) (fat-as s (fat_of x w s) (rw (on.starts, on.sizes, k.first)))
  place-kept (Root s) = unless-kept (root x w s) (root-kept s)
  place-kept (Data c s) = cluster-kept c s (dir_kind_of c)
  place-kept Outside = k

  -- neither do times, counts and the error
  settled-kept : (o : Outcome) → KeptIn o → Kept t o.ids (settled_state x.lba o)
  unfolding settled_state taken_state refused_state with_n with_session with_last with_err
  settled-kept o h =
      pick-has (Kept t o.ids) (eqb o.number 0) (taken_state o.w o.changed) (refused_state o.w x.lba o.number)
      (kept-as t o.ids o.w (taken_state o.w o.changed) h refl refl refl)
      (kept-as t o.ids o.w (refused_state o.w x.lba o.number) h refl refl refl)

  kept : Kept t (write x w).ids (write x w).w
  unfolding write classify
  kept =
      let P : Written → Type 0 = λ r. Kept t r.ids r.w in
      pick-has P (not (whole_sectors x)) (unjudged x w 1) _ k
      (pick-has P (not (table_fits x w)) (unjudged x w 10) _ k
      (pick-has P (not w.rw) (settled x (refused x w 12)) (settled x (classify x w)) (settled-kept (refused x w 12) k)
      (settled-kept (classify x w) (place-kept (place_of x.lba)))))

-- What a write does to the marks of row j, and that what every call keeps is kept.
module _ (t : Table) (fine : accepts t ≡ true) (x : SectorWrite) (on : OnTable t x) (w : W) (k : Kept t x.ids w) where
  pub write-marks : (j : ℕ) → j < length t.ids
      → Does j (write x w).number x.ids (write x w).ids (turns_slot t j x) (zeroes_entries t j x) (moves_file t j x w)
  write-marks = does t (accepted t fine) x on w k

  pub write-kept : Kept t (write x w).ids (write x w).w
  write-kept = kept t (accepted t fine) x on w k
