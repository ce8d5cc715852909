-- Laws of a data area that a block of 4,096 bytes is put into.
use Rattle.std.specs.Prelude.{ℕ, ◌+◌, ◌-◌, ◌*◌, ◌≡◌, length}
use mathlib.Core.List.{List, ◌++◌, append_assoc}
use Rattle.std.proofs.Common.{sym, ◌∙◌, arith, length-append, take-append-drop, length-take-le, drop-drop}
use Rattle.std.proofs.Math.Path.{ap}
use Rattle.std.proofs.Math.ListN.{take, drop}
use Rattle.std.proofs.Math.Seq.{take_at, drop_at}
use Rattle.medium.specs.Medium.{block_of}
use Rattle.medium.specs.MediumLaws.{InArea}
use Rattle.staging.specs.Blocks.{area_with}

module _ (xs bs : List ℕ) (b : ℕ) (i : InArea xs b) (n : length bs ≡ 4096) where
  front : length (take ((b - 2) * 4096) xs) ≡ (b - 2) * 4096
  front = let e = i.ends in length-take-le ((b - 2) * 4096) xs (omega arith)

  head : length (take ((b - 2) * 4096) xs ++ bs) ≡ (b - 2) * 4096 + 4096
  head = length-append (take ((b - 2) * 4096) xs) bs ∙ rw (front, n)

  -- the block then is what was put
  pub area-block : block_of (area_with xs b bs) b ≡ bs
  unfolding area_with block_of
  area-block =
      ap (λ (t : List ℕ). take 4096 (drop ((b - 2) * 4096) t)) (append_assoc (take ((b - 2) * 4096) xs) bs (drop ((b - 2) * 4096 + 4096) xs))
      ∙ ap (λ (t : List ℕ). take 4096 t) (drop_at (take ((b - 2) * 4096) xs) (bs ++ drop ((b - 2) * 4096 + 4096) xs) ((b - 2) * 4096) front)
      ∙ take_at bs (drop ((b - 2) * 4096 + 4096) xs) 4096 n

  -- of two puts the last one stays
  pub area-twice : (cs : List ℕ) → area_with (area_with xs b bs) b cs ≡ area_with xs b cs
  unfolding area_with
  area-twice cs =
      let at = (b - 2) * 4096 in
      let whole = take at xs ++ bs ++ drop (at + 4096) xs in
      let t : take at whole ≡ take at xs =
      ap (λ (u : List ℕ). take at u) (append_assoc (take at xs) bs (drop (at + 4096) xs)) ∙ take_at (take at xs) (bs ++ drop (at + 4096) xs) at front in
      let d : drop (at + 4096) whole ≡ drop (at + 4096) xs = drop_at (take at xs ++ bs) (drop (at + 4096) xs) (at + 4096) head in
      ap (λ (u : List ℕ). u ++ cs ++ drop (at + 4096) whole) t ∙ ap (λ (u : List ℕ). take at xs ++ cs ++ u) d

-- its own bytes put back change nothing
pub area-same : (xs : List ℕ) (b : ℕ) → area_with xs b (block_of xs b) ≡ xs
unfolding area_with block_of
area-same xs b =
    let at = (b - 2) * 4096 in
    append_assoc (take at xs) (take 4096 (drop at xs)) (drop (at + 4096) xs)
    ∙ ap (λ (t : List ℕ). take at xs ++ (take 4096 (drop at xs) ++ t)) (sym (drop-drop 4096 at xs))
    ∙ ap (λ (t : List ℕ). take at xs ++ t) (take-append-drop 4096 (drop at xs))
    ∙ take-append-drop at xs
