-- Laws of a block that a sector is put into: it is new, or copied, or the one held.
use Rattle.std.specs.Prelude.{ℕ, List, ◌≡◌, eqb, length}
use Rattle.std.proofs.Common.{◌∙◌, ap, length-append}
use Rattle.std.proofs.lemmas.Bool.{eqb-false}
use Rattle.loops.specs.Loops.{fold}
use Rattle.loops.specs.Choices.{pick-by}
use Rattle.state.specs.declared.w.St.{St}
use Rattle.medium.specs.Medium.{block_of}
use Rattle.medium.specs.MediumLaws.{InArea, block-length}
use Rattle.staging.specs.Blocks.{held_for, place_in, new_block, source_block, filled_block, put_part, area_with}
use Rattle.staging.specs.Lent.{HeldIn}
use Rattle.staging.specs.AreaLaws.{area-block, area-twice}
use Rattle.staging.specs.CopyLaws.{new-length}

block-made : (x : St) (s : ℕ) → length (new_block x s) ≡ 4096
unfolding new_block fold
block-made x s = simp (length-append, new-length)

source-length : (area : List ℕ) (x : St) (s : ℕ) → HeldIn area x s → length (source_block area x s) ≡ 4096
unfolding source_block
source-length area x s i =
    pick-by (λ (bs : List ℕ). length bs ≡ 4096) (eqb (held_for x s) 0) (new_block x s) (block_of area (held_for x s))
    (λ e. block-made x s) (λ e. block-length area (held_for x s) (i (eqb-false (held_for x s) 0 e)))

-- the source put into block b, and then the sector into that
pub filled : (area ys : List ℕ) (b : ℕ) (x : St) (s : ℕ) (d : List ℕ) → InArea area b → HeldIn area x s → ys ≡ area_with area b (source_block area x s)
    → area_with ys b (put_part (block_of ys b) (place_in s) d) ≡ area_with area b (filled_block area x s d)
unfolding filled_block
filled area ys b x s d i h e =
    let n = source-length area x s h in
    ap (λ (zs : List ℕ). area_with zs b (put_part (block_of zs b) (place_in s) d)) e
    ∙ ap (λ (bs : List ℕ). area_with (area_with area b (source_block area x s)) b (put_part bs (place_in s) d)) (area-block area (source_block area x s) b i n)
    ∙ area-twice area (source_block area x s) b i n (put_part (source_block area x s) (place_in s) d)
