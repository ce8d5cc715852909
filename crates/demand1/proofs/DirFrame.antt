-- What a taken sector of a generated directory changes.
use Rattle.std.specs.Prelude.{ℕ, true, ◌≡◌, Option, Some, None}
use Rattle.std.proofs.Math.Bool.{false}
use Rattle.std.proofs.Common.{true≢false, sym, ◌∙◌, arith}
use Rattle.std.proofs.Math.Path.{refl}
use borrow.Author.Tests.{eq-eqb}
use Rattle.loops.specs.Loops.{some}
use Rattle.loops.specs.Choices.{either}
use Rattle.loops.specs.Facts.{some-in}
use Rattle.loops.specs.Marks.{is_at, picked_by}
use Rattle.loops.specs.Rows.{rows-same}
use Rattle.state.specs.declared.w.W.{W}
use Rattle.dir_sectors.specs.Dir.{DirWrite, turned_by, is_found, dir_number, turns_row, turn_id, dir_id, dir_ids, dir_changed}
use Rattle.judge.specs.Classify.{SectorWrite, dir_of, dir}
use Rattle.admits.proofs.DirLaws.{turns-file}
use Rattle.demand1.specs.Changes.{Same, DirOnly}
use Rattle.demand1.proofs.Turns.{none-at, rows-still}

at-found : (j : ℕ) (f : Option ℕ) → is_at j f ≡ true → is_found f ≡ true
unfolding is_at is_found
at-found j (Some k) e = refl
at-found j None e = e

-- where no slot turns a file, no row is turned
none-turned : (d : DirWrite) (j : ℕ) → some (λ i. is_found (turned_by d i)) 16 0 ≡ false → turns_row d j ≡ false
unfolding turns_row picked_by
none-turned d j e =
    either (some (λ i. is_at j (turned_by d i)) 16 0)
    (λ q. some-in (λ i. is_at j (turned_by d i)) 16 0 q
    (λ i l h z. absurd (true≢false (sym (at-found j (turned_by d i) z) ∙ none-at (λ i. is_found (turned_by d i)) 16 i e (omega arith)))))
    (λ q. q)

module _ (x : SectorWrite) (w : W) (k s : ℕ) where
  pub dir-only : (dir x w k s).number ≡ 0 → DirOnly x w k s (dir x w k s)
  unfolding dir dir_ids dir_id turn_id
  dir-only e =
      record {
        state = refl;
        ids = rw (eq-eqb (dir_number (dir_of x k s)) 0 e) (rows-same (dir_id (dir_of x k s) x.fat x.area w.st) _ x.ids (λ j id h. rw (turns-file x k s e j)));
        area = refl;
      }

  pub dir-same : (dir x w k s).number ≡ 0 → (dir x w k s).changed ≡ false → Same x w (dir x w k s)
  unfolding dir dir_ids dir_id dir_changed
  dir-same e c =
      let q = eq-eqb (dir_number (dir_of x k s)) 0 e in
      let n : some (λ i. is_found (turned_by (dir_of x k s) i)) 16 0 ≡ false = rw q at c in
      record { state = refl; ids = rw q (sym (rows-still (dir_id (dir_of x k s) x.fat x.area w.st) 0 x.ids (λ j id. rw (none-turned (dir_of x k s) j n)))); area = refl }
