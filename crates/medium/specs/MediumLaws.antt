-- Laws of the medium's blocks and of what staged sectors read as.
use Rattle.std.specs.Prelude.{ℕ, zero, suc, ◌+◌, ◌-◌, ◌*◌, ◌%◌, ◌<◌, ◌≤◌, Bool, ◌&&◌, List, ◌≡◌, refl, leb, ltb, eqb, length, get_or, take, drop, replicate}
use Rattle.std.proofs.Math.Bool.{true, false}
use Rattle.std.proofs.Common.{true≢false, sym, ◌∙◌, arith, length-take, length-drop, leb-true, ltb-true, eqb-true}
use Rattle.loops.specs.Loops.{pick, some}
use Rattle.loops.specs.Choices.{either, and-0, and-1, and-no}
use Rattle.loops.specs.Facts.{some-in}
use Rattle.bits.specs.Bit.{bit}
use Rattle.slots.specs.Slots.{is_ordinary, names_file, refers_to}
use Rattle.state.specs.declared.w.St.{St}
use Rattle.medium.specs.Medium.{is_medium, has_block, block_of}
use Rattle.medium.specs.Reads.{held_block, sector_of}

-- where the bytes of a block lie
pub record InArea (area : List ℕ) (b : ℕ) : Type 0 where
  pub low : 2 ≤ b
  pub high : b < 65526
  pub ends : (b - 2) * 4096 + 4096 ≤ length area

pub block-in : (fat area : List ℕ) (b : ℕ) → has_block fat area b ≡ true → InArea area b
unfolding has_block is_medium
block-in fat area b e =
    let lo = leb 3 (length fat) in
    let hi = leb (length fat) 65526 in
    let sz = eqb (length area) ((length fat - 2) * 4096) in
    let e1 = and-0 (lo && hi && sz && leb 2 b) (ltb b (length fat)) e in
    let e2 = and-0 (lo && hi && sz) (leb 2 b) e1 in
    let p = leb-true 2 b (and-1 (lo && hi && sz) (leb 2 b) e1) in
    let q = ltb-true b (length fat) (and-1 (lo && hi && sz && leb 2 b) (ltb b (length fat)) e) in
    let r = leb-true (length fat) 65526 (and-1 lo hi (and-0 (lo && hi) sz e2)) in
    let s = eqb-true (length area) ((length fat - 2) * 4096) (and-1 (lo && hi) sz e2) in
    record { low = p; high = omega arith; ends = omega arith }

pub block-length : (area : List ℕ) (b : ℕ) → InArea area b → length (block_of area b) ≡ 4096
unfolding block_of
block-length area b i = let e = i.ends in simp (length-take, length-drop) (omega arith)

pub part-length : (bs : List ℕ) (q : ℕ) → length bs ≡ 4096 → q < 8 → length (take 512 (drop (q * 512) bs)) ≡ 512
part-length bs q e h = simp (length-take, length-drop) (omega arith)

-- 0 stands for no block
none-held : (fat area : List ℕ) → has_block fat area 0 ≡ false
unfolding has_block
none-held fat area = and-none (is_medium fat area) (ltb 0 (length fat))
  where
    and-none : (a c : Bool) → (a && leb 2 0 && c) ≡ false
    and-none true c = refl
    and-none false c = refl

module _ (fat area : List ℕ) (x : St) (s b : ℕ) (held : b ≡ pick (bit x.map s) (held_block x s) 0) where
  pub sector-none : has_block fat area b ≡ false → sector_of fat area x s ≡ replicate 512 0
  unfolding sector_of
  sector-none e =
      either (bit x.map s)
      (λ t. let q : has_block fat area (held_block x s) ≡ false = rw t at (rw held at e) in rw (and-no (bit x.map s) (has_block fat area (held_block x s)) q))
      (λ t. rw t)

  pub sector-held : has_block fat area b ≡ true → sector_of fat area x s ≡ take 512 (drop (s % 8 * 512) (block_of area b))
  unfolding sector_of
  sector-held e =
      either (bit x.map s)
      (λ t. let h : b ≡ held_block x s = rw t at held in
      let q : has_block fat area (held_block x s) ≡ true = rw h at e in
      rw (t, q, h))
      (λ t. let h : b ≡ 0 = rw t at held in
      let q : has_block fat area 0 ≡ true = rw h at e in
      absurd (true≢false (sym q ∙ none-held fat area)))

zero-at : (n k : ℕ) → ◌≡◌ {A = ℕ} (get_or (replicate n 0) k 0) 0
zero-at zero k = refl
zero-at (suc n) zero = refl
zero-at (suc n) (suc k) = zero-at n k

-- zeros name no file
zero-slot : (start size at : ℕ) → names_file (replicate 512 0) start size at ≡ false
unfolding names_file is_ordinary
zero-slot start size at = simp (zero-at 512 at)

pub zeros-name : (start size : ℕ) → refers_to (replicate 512 0) start size ≡ false
unfolding refers_to
zeros-name start size =
    either (some (λ i. names_file (replicate 512 0) start size (i * 32)) 16 0)
    (λ e. some-in (λ i. names_file (replicate 512 0) start size (i * 32)) 16 0 e (λ k l h q. absurd (true≢false (sym q ∙ zero-slot start size (k * 32)))))
    (λ e. e)
