-- Laws of a file's bytes: its sectors joined, a block as a part of one sector, and a part that is written.
use Prim.Native.Nat.{ℕ, zero, suc, ◌+◌, ◌-◌, ◌*◌, ◌/◌, ◌%◌, ◌<◌, ◌≤◌, min}
use Rattle.std.specs.Prelude.{◌&&◌, ◌≡◌, leb, ltb, length, drop, replicate}
use mathlib.Core.List.{List, [], ◌∷◌, ◌++◌}
use Rattle.std.proofs.Math.Path.{refl, sym, ap}
use Rattle.std.proofs.Common.{◌∙◌, arith, length-append, length-take, length-drop, take_all, take-take, drop-drop, take_at, drop_at, length-take-le}
use Rattle.std.proofs.Math.ListN.{take}
use Rattle.std.proofs.lemmas.List.{length-replicate, take-append-le, drop-append-le}
use Rattle.std.proofs.Math.Seq.{take-nil}
use borrow.Author.Tests.{leb-true, leb-false, ltb-true, ltb-false}
use Rattle.loops.specs.Loops.{fold}
use Rattle.loops.specs.Choices.{either, pick-by, and-1}
use Rattle.bits.specs.Bit.{bit}
use Rattle.state.specs.declared.w.St.{St}
use Rattle.medium.specs.Medium.{has_block, block_of}
use Rattle.medium.specs.MediumLaws.{block-in, block-length, part-length}
use Rattle.medium.specs.Reads.{held_block, sector_of}
use Rattle.chains.specs.declared.Chain.{Chain}
use Rattle.body.specs.Body.{joined, chain_sector, file_bytes, block_in}

-- a part of two lists end to end is a part of the one and a part of the other
pub take-both : (n : ℕ) (xs ys : List ℕ) → take n (xs ++ ys) ≡ take n xs ++ take (n - length xs) ys
take-both zero xs ys = let e : 0 - length xs ≡ 0 = omega arith in rw e
take-both (suc n) [] ys = let e : suc n - 0 ≡ suc n = omega arith in rw e
take-both (suc n) (x ∷ xs) ys = let e : suc n - suc (length xs) ≡ n - length xs = omega arith in rw e (ap (λ (t : List ℕ). x ∷ t) (take-both n xs ys))

pub drop-both : (n : ℕ) (xs ys : List ℕ) → drop n (xs ++ ys) ≡ drop n xs ++ drop (n - length xs) ys
drop-both zero xs ys = let e : 0 - length xs ≡ 0 = omega arith in rw e
drop-both (suc n) [] ys = let e : suc n - 0 ≡ suc n = omega arith in rw e
drop-both (suc n) (x ∷ xs) ys = let e : suc n - suc (length xs) ≡ n - length xs = omega arith in rw e (drop-both n xs ys)

fold-more : {S : Type 0} (turn : ℕ → S → S) (n i : ℕ) (s : S) → fold turn (suc n) i s ≡ turn (i + n) (fold turn n i s)
unfolding fold
fold-more turn zero i s = let e : i + 0 ≡ i = omega arith in rw e
fold-more turn (suc n) i s = let e : i + suc n ≡ i + 1 + n = omega arith in rw e (fold-more turn n (i + 1) (turn i s))

-- one list more
pub joined-more : (f : ℕ → List ℕ) (m : ℕ) → joined f (suc m) ≡ joined f m ++ f m
unfolding joined
joined-more f m = let e : 0 + m ≡ m = omega arith in rw e at (fold-more (λ k bs. bs ++ f k) m 0 [])

-- w tells where each of them starts
pub joined-length : (f : ℕ → List ℕ) (w : ℕ → ℕ) (m : ℕ) → w 0 ≡ 0 → ((k : ℕ) → k < m → w (suc k) ≡ w k + length (f k)) → length (joined f m) ≡ w m
unfolding joined fold
joined-length f w zero z h = sym z
joined-length f w (suc m) z h =
    ap length (joined-more f m) ∙ length-append (joined f m) (f m)
    ∙ ap (λ (n : ℕ). n + length (f m)) (joined-length f w m z (λ k l. h k (omega arith))) ∙ sym (h m (omega arith))

-- a part of a part
drop-take : (a b : ℕ) (l : List ℕ) → drop a (take b l) ≡ take (b - a) (drop a l)
drop-take zero b l = let e : b - 0 ≡ b = omega arith in rw e
drop-take (suc a) zero l = let e : 0 - suc a ≡ 0 = omega arith in rw e
drop-take (suc a) (suc b) [] = sym (take-nil (suc b - suc a))
drop-take (suc a) (suc b) (x ∷ l) = let e : suc b - suc a ≡ b - a = omega arith in rw e (drop-take a b l)

take-min : (m n c : ℕ) (l : List ℕ) → c ≡ min m n → take m (take n l) ≡ take c l
take-min m n c l e =
    let s = length-take n l in
    either (leb m n) (λ q. let w = leb-true m n q in let z : c ≡ m = omega arith in rw z (take-take m n l w))
    (λ q. let w = leb-false m n q in let z : c ≡ n = omega arith in rw z (take_all m (take n l) (omega arith)))

-- sectors joined
module _ (f : ℕ → List ℕ) (len : (k : ℕ) → length (f k) ≡ 512) where
  pub sectors-length : (m : ℕ) → length (joined f m) ≡ m * 512
  sectors-length m = joined-length f (λ k. k * 512) m refl (λ k l. let e = len k in omega arith)

  sector-at : (m k : ℕ) → k < m → take 512 (drop (k * 512) (joined f m)) ≡ f k
  sector-at zero k h = absurd (omega arith)
  sector-at (suc m) k h =
      let n = sectors-length m in
      let e = len k in
      let d = length-drop (k * 512) (joined f m) in
      rw (joined-more f m)
      (either (ltb k m)
      (λ q. let w = ltb-true k m q in
      ap (take 512) (drop-append-le (k * 512) (joined f m) (f m) (omega arith))
      ∙ take-append-le 512 (drop (k * 512) (joined f m)) (f m) (omega arith) ∙ sector-at m k w)
      (λ q. let z : m ≡ k = omega (arith, ltb-false k m q) in
      ap (take 512) (drop_at (joined f m) (f m) (k * 512) (n ∙ ap (λ (j : ℕ). j * 512) z)) ∙ rw z (take_all 512 (f k) (omega arith))))

  -- sectors past the size don't count
  cut-same : (g : ℕ → List ℕ) → ((k : ℕ) → length (g k) ≡ 512) → (size m : ℕ) → ((k : ℕ) → k * 512 < size → f k ≡ g k) → take size (joined f m) ≡ take size (joined g m)
  unfolding joined fold
  cut-same g n size zero same = refl
  cut-same g n size (suc m) same =
      ap (take size) (joined-more f m) ∙ take-both size (joined f m) (f m)
      ∙ rw (sectors-length m, cut-same g n size m same)
      (ap (λ (u : List ℕ). take size (joined g m) ++ u) last
      ∙ sym (ap (take size) (joined-more g m) ∙ take-both size (joined g m) (g m) ∙ rw (joined-length g (λ k. k * 512) m refl (λ k l. let e = n k in omega arith))))
    where
      last : take (size - m * 512) (f m) ≡ take (size - m * 512) (g m)
      last =
          either (ltb (m * 512) size) (λ q. ap (take (size - m * 512)) (same m (ltb-true (m * 512) size q)))
          (λ q. let z : size - m * 512 ≡ 0 = omega (arith, ltb-false (m * 512) size q) in rw z)

  -- a block of the file is a part of one sector
  pub block-is : (m size q n : ℕ) → size ≤ m * 512 → q * 128 < size → n ≡ min (size - q * 128) 128
      → block_in (take size (joined f m)) q ≡ take n (drop (q % 4 * 128) (f (q / 4)))
  block-is m size q n fit h e =
      let all = joined f m in
      let at = q * 128 in
      let k = q / 4 in
      let r = q % 4 * 128 in
      let p : k * 512 + r ≡ at = omega arith in
      ap (take 128) (drop-take at size all) ∙ take-min 128 (size - at) n (drop at all) (omega arith)
      ∙ sym (ap (λ (u : List ℕ). take n (drop r u)) (sym (sector-at m k (omega arith)))
      ∙ ap (take n) (drop-take r 512 (drop (k * 512) all)) ∙ take-take n (512 - r) (drop r (drop (k * 512) all)) (omega arith)
      ∙ ap (take n) (drop-drop r (k * 512) all ∙ ap (λ (j : ℕ). drop j all) p))

pub sector-length : (fat area : List ℕ) (x : St) (s : ℕ) → length (sector_of fat area x s) ≡ 512
unfolding sector_of
sector-length fat area x s =
    let b = held_block x s in
    pick-by (λ (t : List ℕ). length t ≡ 512) (bit x.map s && has_block fat area b) (take 512 (drop (s % 8 * 512) (block_of area b))) (replicate 512 0)
    (λ e. part-length (block_of area b) (s % 8) (block-length area b (block-in fat area b (and-1 (bit x.map s) (has_block fat area b) e))) (omega arith))
    (λ e. length-replicate {A = ℕ} 512 0)

-- a part of a list that is written: it reads as what was written, and what follows it is as it was
pub part-new : (s d : List ℕ) (a k : ℕ) → a ≤ length s → length d ≡ k → take k (drop a (take a s ++ (d ++ drop k (drop a s)))) ≡ d
part-new s d a k h n =
    ap (take k) (drop_at (take a s) (d ++ drop k (drop a s)) a (length-take-le a s h)) ∙ take_at d (drop k (drop a s)) k n

pub part-after : (s d : List ℕ) (a k j : ℕ) → a ≤ length s → length d ≡ k → drop (a + (k + j)) (take a s ++ (d ++ drop k (drop a s))) ≡ drop (a + (k + j)) s
part-after s d a k j h n =
    let r = d ++ drop k (drop a s) in
    sym (drop-drop (k + j) a (take a s ++ r)) ∙ ap (drop (k + j)) (drop_at (take a s) r a (length-take-le a s h))
    ∙ sym (drop-drop j k r) ∙ ap (drop j) (drop_at d (drop k (drop a s)) k n) ∙ ap (drop j) (drop-drop k a s)
    ∙ drop-drop j (a + k) s ∙ (let e : a + k + j ≡ a + (k + j) = omega arith in rw e)

-- the file's bytes depend on its own sectors only
pub bytes-same : (fat area fat' area' : List ℕ) (st st' : List St) (ch : Chain) (size : ℕ)
    → ((k : ℕ) → k * 512 < size → chain_sector fat area st ch k ≡ chain_sector fat' area' st' ch k) → file_bytes fat area st ch size ≡ file_bytes fat' area' st' ch size
unfolding file_bytes
bytes-same fat area fat' area' st st' ch size same =
    cut-same (chain_sector fat area st ch) (λ k. sector-length fat area _ (k % 64)) (chain_sector fat' area' st' ch) (λ k. sector-length fat' area' _ (k % 64)) size (ch.n * 64) same
