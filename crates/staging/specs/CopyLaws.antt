-- Laws of how a block is made: its eight sectors filled, or the bytes of another block copied.
use Rattle.std.specs.Prelude.{ℕ, ◌+◌, ◌-◌, ◌*◌, ◌<◌, ◌≤◌, ◌≡◌, refl, length, replicate}
use mathlib.Core.List.{List, ◌++◌}
use Rattle.std.proofs.Math.Path.{sym}
use Rattle.std.proofs.Common.{◌∙◌, ap, length-append, length-take, length-drop, take_at, take_all, length-take-le}
use native.Mathlib.Omega.{arith}
use Rattle.std.proofs.Math.ListN.{take, drop}
use Rattle.std.proofs.lemmas.List.{length-replicate}
use Rattle.std.proofs.Math.Seq.{paste}
use Rattle.loops.specs.Loops.{pick, fold, fold-go, fold-end}
use Rattle.bits.specs.Bit.{bit}
use Rattle.state.specs.declared.w.St.{St}
use Rattle.medium.specs.Medium.{block_of}
use Rattle.medium.specs.MediumLaws.{InArea, block-length}
use Rattle.staging.specs.Blocks.{block_at, new_sector, new_block, put_part, area_with}
use Rattle.staging.specs.AreaLaws.{area-block, area-twice, area-same}

-- the first q sectors of the block are new, and nothing outside it has changed
pub record NewUpTo (xs : List ℕ) (b : ℕ) (x : St) (s : ℕ) (ys : List ℕ) (q : ℕ) : Type 0 where
  pub long : length ys ≡ length xs
  pub made : new_block x s ≡ fold (λ k bs. bs ++ new_sector x s k) (8 - q) q (take (q * 512) (block_of ys b))
  pub beside : ys ≡ area_with xs b (block_of ys b)

pub new-start : (xs : List ℕ) (b : ℕ) (x : St) (s : ℕ) → NewUpTo xs b x s xs 0
unfolding new_block
new-start xs b x s = record { long = refl; made = refl; beside = sym (area-same xs b) }

part-length : (bs d : List ℕ) (at : ℕ) → length bs ≡ 4096 → length d ≡ 512 → at + 512 ≤ 4096 → length (put_part bs at d) ≡ 4096
part-length bs d at n e h = simp (length-append, length-take, length-drop, n, e) (omega arith)

pub new-length : (x : St) (s q : ℕ) → length (new_sector x s q) ≡ 512
unfolding new_sector
new-length x s q = length-replicate {A = ℕ} 512 (pick (bit x.map (block_at s * 8 + q)) 0x00 0xFF)

-- what it is filled with
pub new-filled : (x : St) (s q n v : ℕ) → n ≡ 512 → v ≡ pick (bit x.map (block_at s * 8 + q)) 0x00 0xFF → replicate n v ≡ new_sector x s q
unfolding new_sector
new-filled x s q n v e f = ap (λ (k : ℕ). replicate k v) e ∙ ap (λ (k : ℕ). replicate 512 k) f

-- a sector more
module _ (xs : List ℕ) (b : ℕ) (x : St) (s : ℕ) (ys : List ℕ) (q : ℕ) (inside : InArea xs b) (h : q < 8) (inv : NewUpTo xs b x s ys q) where
  still : InArea ys b
  still = record { low = inside.low; high = inside.high; ends = rw inv.long inside.ends }

  whole : length (put_part (block_of ys b) (q * 512) (new_sector x s q)) ≡ 4096
  whole = part-length (block_of ys b) (new_sector x s q) (q * 512) (block-length ys b still) (new-length x s q) (omega arith)

  pub new-more : (zs : List ℕ) → length zs ≡ length ys
      → zs ≡ area_with ys b (put_part (block_of ys b) (q * 512) (new_sector x s q)) → NewUpTo xs b x s zs (q + 1)
  new-more zs l e =
      let bs = put_part (block_of ys b) (q * 512) (new_sector x s q) in
      let r : block_of zs b ≡ bs = ap (λ (t : List ℕ). block_of t b) e ∙ area-block ys bs b still whole in
      let n = block-length ys b still in
      let f : length (take (q * 512) (block_of ys b)) ≡ q * 512 = length-take-le (q * 512) (block_of ys b) (omega arith) in
      let k : length (take (q * 512) (block_of ys b) ++ new_sector x s q) ≡ (q + 1) * 512 =
      length-append (take (q * 512) (block_of ys b)) (new_sector x s q) ∙ rw (f, new-length x s q) (omega arith) in
      let t : take ((q + 1) * 512) (block_of zs b) ≡ take (q * 512) (block_of ys b) ++ new_sector x s q =
      ap (λ (u : List ℕ). take ((q + 1) * 512) u) r
      ∙ take_at (take (q * 512) (block_of ys b) ++ new_sector x s q) (drop (q * 512 + 512) (block_of ys b)) ((q + 1) * 512) k in
      record {
        long = l ∙ inv.long;
        made = rw t (fold-go (λ k bs. bs ++ new_sector x s k) 8 q (take (q * 512) (block_of ys b)) (new_block x s) inv.made h);
        beside = e ∙ ap (λ (u : List ℕ). area_with u b bs) inv.beside
            ∙ area-twice xs (block_of ys b) b inside n bs ∙ ap (λ (u : List ℕ). area_with xs b u) (sym r);
      }

pub new-end : (xs : List ℕ) (b : ℕ) (x : St) (s : ℕ) (ys : List ℕ) (q : ℕ) → InArea xs b → q ≡ 8 → NewUpTo xs b x s ys q
    → ys ≡ area_with xs b (new_block x s)
new-end xs b x s ys q inside z inv =
    let i : InArea ys b = record { low = inside.low; high = inside.high; ends = rw inv.long inside.ends } in
    let n = block-length ys b i in
    let f = fold-end (λ k bs. bs ++ new_sector x s k) 8 q (take (q * 512) (block_of ys b)) (new_block x s) inv.made (omega arith) in
    inv.beside ∙ ap (λ (u : List ℕ). area_with xs b u) (sym (take_all (q * 512) (block_of ys b) (omega arith)) ∙ f)

-- the bytes of another block put into the area, as a copy inside a list does it
pub copied : (xs : List ℕ) (b from n : ℕ) → n ≡ 4096 → paste xs ((b - 2) * 4096) (drop ((from - 2) * 4096) xs) n ≡ area_with xs b (block_of xs from)
unfolding area_with block_of
copied xs b from n e = rw e refl
