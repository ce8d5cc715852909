-- Laws of one file's entries and slot, and of what a write and a release add.
use Rattle.std.specs.Prelude.{ℕ, ◌+◌, ◌-◌, ◌*◌, ◌/◌, ◌%◌, min, max, Bool, ◌&&◌, ◌||◌, List, [], ◌∷◌, ◌≡◌, eqb, length, Option, Some, None}
use Rattle.std.proofs.Math.Bool.{true, false}
use Rattle.std.proofs.Math.Path.{refl, sym, ap}
use Rattle.std.proofs.Common.{◌∙◌, eqb-true, eq-eqb, ne_eqb}
use Rattle.loops.specs.Loops.{all}
use Rattle.loops.specs.Choices.{and-0, and-1, and-no, or-r}
use Rattle.sector.specs.Bytes.{word, zeros}
use Rattle.vdisk.specs.Drive.{clusters_of, place_of, dir_kind_of}
use Rattle.vdisk.specs.Ids.{id_dir_of, unmarked}
use Rattle.vdisk.specs.declared.drive.Place.{Place}
use Rattle.vdisk.specs.declared.drive.Place.TheVariants.{Fat, Data}
use Rattle.slots.specs.Slots.{turn_at, refers_to}
use Rattle.fat_sectors.specs.Fat.{fat_write}
use Rattle.fat_sectors.specs.FatLaws.{zeroes-range}
use Rattle.write.specs.Write.{whole_sectors}
use Rattle.marks.specs.Seen.{turns_in, turned_in, turns_at, turns_slot, all_zero, zeroes_in, zeroes_at, zeroes_entries, data_names}
use Rattle.marks.proofs.FatMarks.{all_zero-is}
use Rattle.reasons.specs.Reasons.{file_alone, moved_then, with_seen, after_write, after_end}
use Rattle.reasons.specs.declared.Reason.{Reason}

-- the file's entries in FAT sector s are those from its first cluster there to its last
pub all_zero-range : (start size s : ℕ) (sector : List ℕ) → all_zero (start ∷ []) (size ∷ []) 0 s sector
    ≡ all (λ c. eqb (word sector ((c - s * 256) * 2)) 0) (min (start + clusters_of size) (s * 256 + 256) - max start (s * 256)) (max start (s * 256))
all_zero-range start size s sector =
    let x = fat_write [] (start ∷ []) (size ∷ []) 0 [] s [] sector in
    all_zero-is x 0 ∙ zeroes-range x 0

-- a turn goes by the file's directory and slot
module _ (id slot start size s : ℕ) (shown written : List ℕ) where
  pub turns-dir : (d : Option ℕ) (k : ℕ) → d ≡ Some k
      → turns_in (file_alone id slot start size) 0 s shown written d ≡ (eqb (id_dir_of id) k && (eqb (slot / 16) s && turn_at shown written (slot % 16 * 32)))
  unfolding turns_in turned_in
  turns-dir d k e = rw e

  pub turns-none : (d : Option ℕ) → d ≡ None → turns_in (file_alone id slot start size) 0 s shown written d ≡ false
  unfolding turns_in
  turns-none d e = rw e

  turns-place : (d : Option ℕ) → turns_in (file_alone id slot start size) 0 s shown written d ≡ turns_in (file_alone id slot 0 0) 0 s shown written d
  unfolding turns_in turned_in
  turns-place (Some k) = refl
  turns-place None = refl

module _ (start size : ℕ) (written : List ℕ) (staged turned moved : Bool) where
  pub moved-was : moved ≡ true → true ≡ moved_then start size written staged turned moved
  unfolding moved_then
  moved-was e = sym (or-r (staged && data_names (file_alone 0 0 start size) 0 written && turned) moved e)

  module _ (m : moved ≡ false) where
    pub moved-unturned : turned ≡ false → false ≡ moved_then start size written staged turned moved
    unfolding moved_then
    moved-unturned e = rw (m, e, and-no (staged && data_names (file_alone 0 0 start size) 0 written) false refl)

    pub moved-unstaged : staged ≡ false → false ≡ moved_then start size written staged turned moved
    unfolding moved_then
    moved-unstaged e = rw (m, e)

    module _ (t : turned ≡ true) (g : staged ≡ true) where
      pub moved-zero : zeros written ≡ true → false ≡ moved_then start size written staged turned moved
      unfolding moved_then data_names
      moved-zero e = rw (m, g, e)

      pub moved-names : zeros written ≡ false → refers_to written start size ≡ moved_then start size written staged turned moved
      unfolding moved_then data_names
      moved-names e = rw (m, t, g, e) (sym (last (refers_to written start size)))
        where
          last : (b : Bool) → ((b && true) || false) ≡ b
          last true = refl
          last false = refl

abbrev pub with_moved : Reason → Bool → Reason
with_moved r moved = record { turned = r.turned; zeroed = r.zeroed; moved = moved; named = r.named; gone = r.gone }

or-assoc : (a b c : Bool) → (a || b || c) ≡ (a || (b || c))
or-assoc true b c = refl
or-assoc false b c = refl

module _ (r : Reason) (id slot start size number lba : ℕ) (shown written : List ℕ) (named staged : Bool) where
  abbrev after : Reason
  after = after_write r id slot start size number lba shown written named staged

  pub after-refused : (number ≡ 0 → ⊥) → after ≡ r
  unfolding after_write
  after-refused e = rw (ne_eqb number 0 e)

  pub after-part : (eqb (length shown) 512 && eqb (length written) 512) ≡ false → after ≡ r
  unfolding after_write whole_sectors
  after-part e = rw (e, and-no (eqb number 0) false refl)

  -- v says whether it moved by data that names it
  module _ (n : number ≡ 0) (whole : (eqb (length shown) 512 && eqb (length written) 512) ≡ true)
      (v : Bool) (by : v ≡ moved_then start size written staged r.turned r.moved) where
    abbrev turns : Place → Bool
    turns p = turns_at (file_alone id slot start size) 0 shown written p

    pub after-place : (p : Place) → place_of lba ≡ p
        → after ≡ with_seen (with_moved r v) (turns p) (zeroes_at (file_alone id slot start size) 0 shown written p) (turns p && named)
    unfolding after_write whole_sectors turns_slot zeroes_entries data_names moved_then
    after-place p q = rw (eq-eqb number 0 n, whole, q, by, or-assoc (turns p && named) (staged && data_names (file_alone 0 0 start size) 0 written && r.turned) r.moved)

    pub after-fat : (s : ℕ) → place_of lba ≡ Fat s → after ≡ with_seen (with_moved r v) false (zeroes_in (file_alone 0 0 start size) 0 s shown written) false
    unfolding turns_at zeroes_at zeroes_in
    after-fat s q = after-place (Fat s) q

    pub after-data : (c s : ℕ) → place_of lba ≡ Data c s → (b : Bool) → b ≡ turns_in (file_alone id slot 0 0) 0 s shown written (dir_kind_of c)
        → after ≡ with_seen (with_moved r v) b false (b && named)
    unfolding turns_at zeroes_at
    after-data c s q b e =
        after-place (Data c s) q
        ∙ ap (λ (u : Bool). with_seen (with_moved r v) u false (u && named)) (turns-place id slot start size s shown written (dir_kind_of c) ∙ sym e)

pub and-first : (a b : Bool) → a ≡ false → (a && b) ≡ false
and-first a b e = rw e

-- a completed release that leaves the file marked
pub after-marked : (r : Reason) (ended id : ℕ) (named b : Bool) → ended ≡ 1 → unmarked id ≡ false → (named && r.moved) ≡ b
    → after_end r ended id named ≡ record { turned = r.turned; zeroed = r.zeroed; moved = r.moved; named = b || r.named; gone = r.gone }
unfolding after_end
after-marked r ended id named b e u q = rw (eq-eqb ended 1 e, u, q)
