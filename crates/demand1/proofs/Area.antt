-- A block put into the data area: its own bytes there, and every byte outside it.
use Prim.Native.Nat.{ℕ, zero, suc, ◌+◌, ◌-◌, ◌*◌, ◌/◌, ◌%◌, ◌<◌, ◌≤◌, max}
use Rattle.std.specs.Prelude.{true, ◌&&◌, ◌≡◌, leb, eqb, take, drop}
use Rattle.std.proofs.Math.Bool.{false}
use mathlib.Core.List.{List, [], ◌++◌}
use Rattle.std.proofs.Math.Path.{refl, ap}
use Rattle.std.proofs.Common.{sym, ◌∙◌, length-take-le}
use native.Mathlib.Omega.{arith}
use Rattle.std.proofs.Math.Dec.{ltb}
use Rattle.std.proofs.Math.ListN.{length, get_or, length-append, length-take, length-drop, get_or-replicate, get_or-append}
use Rattle.std.proofs.Math.Seq.{get_or-take, get_or-drop, get_or-append-add}
use borrow.Author.Tests.{eqb-true, eqb-false, ltb-true, ltb-false, le-leb}
use Rattle.loops.specs.Loops.{pick, fold}
use Rattle.loops.specs.Choices.{either, pick-by, and-of}
use Rattle.bits.specs.Bit.{bit}
use Rattle.state.specs.declared.w.St.{St}
use Rattle.medium.specs.Medium.{Free, is_medium, has_block, block_of, free_at, search_end, next_free}
use Rattle.medium.specs.MediumLaws.{InArea, block-length}
use Rattle.staging.specs.Blocks.{held_for, new_sector, new_block, source_block, put_part, filled_block, area_with}
use Rattle.staging.specs.AreaLaws.{area-block}
use Rattle.staging.specs.CopyLaws.{new-length as sector-length}
use Rattle.judge.specs.Classify.{SectorWrite}
use Rattle.admits.proofs.SearchLaws.{first-ge}
use Rattle.demand1.specs.StageChanges.{byte_of, in_block, byte_before, byte_after}

-- a byte of a block lies in the area
block-at : (area : List ℕ) (b k : ℕ) → k < 4096 → get_or (block_of area b) k 0 ≡ get_or area (byte_of b k) 0
unfolding block_of
block-at area b k h = get_or-take 4096 (drop ((b - 2) * 4096) area) k 0 h ∙ get_or-drop ((b - 2) * 4096) area k 0

module _ (area bytes : List ℕ) (b : ℕ) (l : length bytes ≡ 4096) (i : InArea area b) where
  pub area-length : length (area_with area b bytes) ≡ length area
  unfolding area_with
  area-length = let e = i.ends in simp (length-append, length-take, length-drop, l) (omega arith)

  front : length (take ((b - 2) * 4096) area) ≡ (b - 2) * 4096
  front = let e = i.ends in simp (length-take) (omega arith)

  front-bytes : length (take ((b - 2) * 4096) area ++ bytes) ≡ (b - 2) * 4096 + 4096
  front-bytes = simp (length-append, front, l)

  pub area-own : (k : ℕ) → k < 4096 → get_or (area_with area b bytes) (byte_of b k) 0 ≡ get_or bytes k 0
  area-own k h = sym (block-at (area_with area b bytes) b k h) ∙ ap (λ (t : List ℕ). get_or t k 0) (area-block area bytes b i l)

  pub area-other : (k : ℕ) → in_block b k ≡ false → get_or (area_with area b bytes) k 0 ≡ get_or area k 0
  unfolding area_with in_block
  area-other k e =
      let n = (b - 2) * 4096 in
      either (ltb k n)
      (λ q. let h = ltb-true k n q in
      get_or-append (take n area ++ bytes) (drop (n + 4096) area) 0 k (omega (arith, front-bytes))
      ∙ get_or-append (take n area) bytes 0 k (omega (arith, front)) ∙ get_or-take n area k 0 h)
      (λ q. let h = ltb-false k n q in
      let r : ltb k (n + 4096) ≡ false = rw (le-leb (byte_of b 0) k (omega arith)) at e in
      let g = ltb-false k (n + 4096) r in
      let z : n + 4096 + (k - (n + 4096)) ≡ k = omega arith in
      let y = get_or-append-add (take n area ++ bytes) (drop (n + 4096) area) (k - (n + 4096)) 0 in
      rw z at (rw front-bytes at y) ∙ get_or-drop (n + 4096) area (k - (n + 4096)) 0 ∙ ap (λ (m : ℕ). get_or area m 0) z)

-- a new block grows by a sector at a time
module _ (x : St) (s : ℕ) where
  abbrev grow : ℕ → ℕ → List ℕ → List ℕ
  grow n q bs = fold (λ q bs. bs ++ new_sector x s q) n q bs

  sector-at : (q k : ℕ) → k < 512 → get_or (new_sector x s q) k 0 ≡ pick (bit x.map (s / 8 * 8 + q)) 0x00 0xFF
  unfolding new_sector
  sector-at q k h = get_or-replicate 512 k (pick (bit x.map (s / 8 * 8 + q)) 0x00 0xFF) 0 h

  grown : (n q : ℕ) (bs : List ℕ) → length (grow n q bs) ≡ length bs + n * 512
  unfolding fold
  grown zero q bs = omega arith
  grown (suc n) q bs = grown n (q + 1) (bs ++ new_sector x s q) ∙ simp (length-append, sector-length x s q) (omega arith)

  new-length : length (new_block x s) ≡ 4096
  unfolding new_block
  new-length = grown 8 0 []

  grown-low : (n q : ℕ) (bs : List ℕ) (k : ℕ) → k < length bs → get_or (grow n q bs) k 0 ≡ get_or bs k 0
  unfolding fold
  grown-low zero q bs k h = refl
  grown-low (suc n) q bs k h =
      grown-low n (q + 1) (bs ++ new_sector x s q) k (omega (arith, length-append bs (new_sector x s q)))
      ∙ get_or-append bs (new_sector x s q) 0 k h

  -- byte k of the sector that it lies in
  grown-at : (n q : ℕ) (bs : List ℕ) (k : ℕ) → length bs ≡ q * 512 → q * 512 ≤ k → k < (q + n) * 512
      → get_or (grow n q bs) k 0 ≡ pick (bit x.map (s / 8 * 8 + k / 512)) 0x00 0xFF
  unfolding fold
  grown-at zero q bs k l a h = absurd (omega arith)
  grown-at (suc n) q bs k l a h =
      let z : length (bs ++ new_sector x s q) ≡ (q + 1) * 512 = length-append bs (new_sector x s q) ∙ rw (l, sector-length x s q) (omega arith) in
      either (ltb k ((q + 1) * 512))
      (λ e. let m = ltb-true k ((q + 1) * 512) e in
      let d : k / 512 ≡ q = omega arith in
      let i : q * 512 + (k - q * 512) ≡ k = omega arith in
      let y : get_or (bs ++ new_sector x s q) k 0 ≡ get_or (new_sector x s q) (k - q * 512) 0 =
      rw i at (rw l at (get_or-append-add bs (new_sector x s q) (k - q * 512) 0)) in
      rw d (grown-low n (q + 1) (bs ++ new_sector x s q) k (omega arith) ∙ y ∙ sector-at q (k - q * 512) (omega arith)))
      (λ e. let m = ltb-false k ((q + 1) * 512) e in grown-at n (q + 1) (bs ++ new_sector x s q) k z m (omega arith))

  new-at : (k : ℕ) → k < 4096 → get_or (new_block x s) k 0 ≡ pick (bit x.map (s / 8 * 8 + k / 512)) 0x00 0xFF
  unfolding new_block
  new-at k h = grown-at 8 0 [] k refl (omega arith) (omega arith)

-- part of a block written over: the part's own bytes, and the others
put-at : (bs d : List ℕ) (q k : ℕ) → length bs ≡ 4096 → length d ≡ 512 → q < 8 → k < 4096
    → get_or (put_part bs (q * 512) d) k 0 ≡ pick (eqb (k / 512) q) (get_or d (k % 512) 0) (get_or bs k 0)
put-at bs d q k l e m h =
    let n = q * 512 in
    let a : length (take n bs) ≡ n = length-take-le n bs (omega arith) in
    let c : length (take n bs ++ d) ≡ n + 512 = length-append (take n bs) d ∙ rw (a, e) in
    either (eqb (k / 512) q)
    (λ z. let y = eqb-true (k / 512) q z in
    let i : n + k % 512 ≡ k = omega arith in
    let u = get_or-append-add (take n bs) d (k % 512) 0 in
    get_or-append (take n bs ++ d) (drop (n + 512) bs) 0 k (omega arith) ∙ (rw i at (rw a at u)) ∙ rw z)
    (λ z. let y = eqb-false (k / 512) q z in
    rw z
    (either (ltb k n)
    (λ r. let g = ltb-true k n r in
    get_or-append (take n bs ++ d) (drop (n + 512) bs) 0 k (omega arith)
    ∙ get_or-append (take n bs) d 0 k (omega arith) ∙ get_or-take n bs k 0 g)
    (λ r. let g = ltb-false k n r in
    let i : n + 512 + (k - (n + 512)) ≡ k = omega arith in
    let u = get_or-append-add (take n bs ++ d) (drop (n + 512) bs) (k - (n + 512)) 0 in
    (rw i at (rw c at u)) ∙ get_or-drop (n + 512) bs (k - (n + 512)) 0 ∙ ap (λ (j : ℕ). get_or bs j 0) i)))

-- the bytes of a block with the sector in it
module _ (x : SectorWrite) (y : St) (s : ℕ) (e : length x.written ≡ 512) (f : (held_for y s ≡ 0 → ⊥) → InArea x.area (held_for y s)) where
  source-length : length (source_block x.area y s) ≡ 4096
  unfolding source_block
  source-length =
      pick-by (λ (bs : List ℕ). length bs ≡ 4096) (eqb (held_for y s) 0) (new_block y s) (block_of x.area (held_for y s)) (λ q. new-length y s)
      (λ q. block-length x.area (held_for y s) (f (eqb-false (held_for y s) 0 q)))

  source-at : (k : ℕ) → k < 4096 → get_or (source_block x.area y s) k 0 ≡ byte_before x y s k
  unfolding source_block byte_before
  source-at k h = either (eqb (held_for y s) 0) (λ q. rw q (new-at y s k h)) (λ q. rw q (block-at x.area (held_for y s) k h))

  pub filled-length : length (filled_block x.area y s x.written) ≡ 4096
  unfolding filled_block
  filled-length = let l = source-length in simp (length-append, length-take, length-drop, l, e) (omega arith)

  pub filled-at : (k : ℕ) → k < 4096 → get_or (filled_block x.area y s x.written) k 0 ≡ byte_after x y s k
  unfolding filled_block byte_after
  filled-at k h = put-at (source_block x.area y s) x.written (s % 8) k source-length e (omega arith) h ∙ rw (source-at k h)

-- a block that was found is one of the medium's
pub free-has : (fat area : List ℕ) (hint : ℕ) → is_medium fat area ≡ true → (next_free fat hint).found ≡ true
    → has_block fat area (next_free fat hint).block ≡ true
unfolding next_free has_block search_end
free-has fat area hint m =
    let b = search_end fat hint in
    pick-by (λ (n : Free). n.found ≡ true → has_block fat area n.block ≡ true) (ltb b (length fat))
    (record { found = true; block = b; hint = b + 1 }) (record { found = false; block = 0; hint = b })
    (λ q e. and-of (is_medium fat area && leb 2 b) (ltb b (length fat))
    (and-of (is_medium fat area) (leb 2 b) m (le-leb 2 b (omega (arith, first-ge (free_at fat) (length fat - max hint 2) (max hint 2))))) q)
    (λ q (e : false ≡ true). let z : ◌≡◌ {A = ℕ} 0 1 = cc in absurd (omega arith))
