-- Laws of what `write` tries first, and of its ways.
use Rattle.std.specs.Prelude.{ℕ, ◌≤◌, ◌<◌, Bool, true, false, not, ◌&&◌, List, map, ◌≡◌, refl, eqb, length, Result}
use Rattle.std.proofs.Common.{◌∙◌, sym, arith, eq-eqb, ne_eqb, le-leb}
use Rattle.std.proofs.lemmas.Bool.{lt-leb}
use Rattle.std.proofs.lemmas.List.{length-map}
use Rattle.loops.specs.Loops.{pick}
use Rattle.loops.specs.Choices.{and-no}
use Rattle.refusals.specs.Refusals.{told, value_or}
use Rattle.refusals.specs.declared.Refusal.{Refusal}
use Rattle.file_table.specs.Table.{max_files, whole_columns}
use Rattle.file_table.specs.Files.{id_of, dir_slot_of, start_of, size_of}
use Rattle.file_table.specs.declared.VF.{VF}
use Rattle.file_table.proofs.FileRows.{same-ids}
use Rattle.state.specs.declared.w.W.{W}
use Rattle.judge.specs.Classify.{SectorWrite, files_write, Outcome, Leaves, refused, classify}
use Rattle.write.specs.Write.{taken_state, refused_state, settled_state, settled, unjudged, whole_sectors, table_fits, write, WritesBy}

-- both sectors have 512 bytes, or one has not
module _ (shown written : List ℕ) where
  pub both-whole : length shown ≡ 512 → length written ≡ 512 → (eqb (length shown) 512 && eqb (length written) 512) ≡ true
  both-whole a b = rw (a, b)

  pub part-shown : (length shown ≡ 512 → ⊥) → (eqb (length shown) 512 && eqb (length written) 512) ≡ false
  part-shown h = rw (ne_eqb (length shown) 512 h)

  pub part-written : (length written ≡ 512 → ⊥) → (eqb (length shown) 512 && eqb (length written) 512) ≡ false
  part-written h = and-no (eqb (length shown) 512) (eqb (length written) 512) (ne_eqb (length written) 512 h)

-- each way of `write`, as it goes on where the one before didn't refuse
module _ (x : SectorWrite) (w : W) where
  pub not-whole : whole_sectors x ≡ false → write x w ≡ unjudged x w 1
  unfolding write
  not-whole a = rw a

  pub not-fit : whole_sectors x ≡ true → table_fits x w ≡ false → write x w ≡ unjudged x w 10
  unfolding write
  not-fit a b = rw (a, b)

  pub judged : whole_sectors x ≡ true → table_fits x w ≡ true → write x w ≡ settled x (pick (not w.rw) (refused x w 12) (classify x w))
  unfolding write
  judged a b = rw (a, b) (by-mode w.rw)
    where
      by-mode : (b : Bool) → pick (not b) (settled x (refused x w 12)) (settled x (classify x w)) ≡ settled x (pick (not b) (refused x w 12) (classify x w))
      by-mode true = refl
      by-mode false = refl

-- of a lent table
module _ (lba : ℕ) (shown written : List ℕ) (busy : Bool) (fat area : List ℕ) (files : List VF) (w : W) where
  abbrev X : SectorWrite
  X = files_write lba shown written busy fat area files

  -- one of more than 400 files doesn't fit; one of up to 400 does, since its columns are of one length
  pub many-unfit : max_files < length files → table_fits X w ≡ false
  unfolding table_fits
  many-unfit l = let n = length-map files id_of in rw (lt-leb (length (map id_of files)) max_files (omega (arith, n, l)))

  pub few-fit : length files ≤ max_files → table_fits X w ≡ true
  unfolding table_fits whole_columns
  few-fit l =
      let n = length-map files id_of in
      rw (
        le-leb (length (map id_of files)) max_files (omega (arith, n, l)),
        eq-eqb _ _ (length-map files dir_slot_of ∙ sym n),
        eq-eqb _ _ (length-map files start_of ∙ sym n),
        eq-eqb _ _ (length-map files size_of ∙ sym n),
      )

  -- what isn't judged changes nothing
  pub turned-down : (n : ℕ) → write X w ≡ unjudged X w n → WritesBy lba shown written busy fat area w files n w files area
  turned-down n e = rw e (refl, refl, sym (same-ids files), refl)

  -- what is judged, settled
  pub settled-as : (o : Outcome) (r : Result Bool Refusal) (v u : W) (left : List VF) (after : List ℕ) → write X w ≡ settled X o → Leaves o files r v left after
      → u ≡ pick (eqb (told r) 0) (taken_state v (value_or false r)) (refused_state v lba (told r)) → WritesBy lba shown written busy fat area w files (told r) u left after
  unfolding settled_state
  settled-as o r v u left after e l q =
      rw e (l.number, q ∙ rw (l.number, l.changed, l.state), l.table, l.medium)
