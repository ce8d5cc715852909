-- Laws of blocks of the data area.
use Rattle.std.specs.Prelude.{ℕ, zero, suc, ◌+◌, ◌-◌, ◌*◌, ◌/◌, ◌%◌, ◌^◌, ◌≤◌, true, List, [], ◌∷◌, ◌++◌, ◌≡◌, refl, ltb, take, drop}
use Rattle.std.proofs.Common.{append_assoc, sym, ◌∙◌, ap, arith, take-append-drop, take-take, drop-drop, take-add, eqb-true, ltb-true, ltb-false}
use Rattle.std.proofs.Math.Nat.{div-eq_of_lt}
use Rattle.loops.specs.Choices.{either}
use Rattle.bits.specs.Bit.{bit}
use Rattle.medium.specs.Medium.{block_of}
use Rattle.staging.specs.Blocks.{put_part, area_with}

-- a bit that is set is part of the number
pub bit-le : (m j : ℕ) → bit m j ≡ true → 2 ^ j ≤ m
unfolding bit
bit-le m j e =
    either (ltb m (2 ^ j))
    (λ l. let z : m / 2 ^ j ≡ 0 = div-eq_of_lt (ltb-true m (2 ^ j) l) in
    let q = eqb-true (m / 2 ^ j % 2) 1 e in
    let w : 0 % 2 ≡ 1 = rw z at q in absurd (omega arith))
    (λ l. ltb-false m (2 ^ j) l)

-- a part of a list, and what follows the part in the whole
tail-split : (xs : List ℕ) (k n : ℕ) → k ≤ n → drop k (take n xs) ++ drop n xs ≡ drop k xs
tail-split xs zero n h = take-append-drop n xs
tail-split xs (suc k) zero h = absurd (omega arith)
tail-split [] (suc k) (suc n) h = refl
tail-split (x ∷ xs) (suc k) (suc n) h = tail-split xs k n (omega arith)

-- a sector put into the area is that sector put into its block
pub put-block : (xs d : List ℕ) (b at : ℕ) → at + 512 ≤ 4096
    → take ((b - 2) * 4096 + at) xs ++ (d ++ drop 512 (drop ((b - 2) * 4096 + at) xs)) ≡ area_with xs b (put_part (block_of xs b) at d)
unfolding area_with block_of
put-block xs d b at h =
    let s = (b - 2) * 4096 in
    let ys = drop ((b - 2) * 4096) xs in
    let e : s + (at + 512) ≡ s + at + 512 = omega arith in
    let q : drop (at + 512) (take 4096 ys) ++ drop (s + 4096) xs ≡ drop 512 (drop (s + at) xs) =
    ap (λ (t : List ℕ). drop (at + 512) (take 4096 ys) ++ t) (sym (drop-drop 4096 s xs))
    ∙ tail-split ys (at + 512) 4096 h
    ∙ drop-drop (at + 512) s xs ∙ ap (λ (n : ℕ). drop n xs) e ∙ sym (drop-drop 512 (s + at) xs) in
    let l : take (s + at) xs ++ (d ++ drop 512 (drop (s + at) xs)) ≡ take s xs ++ (take at ys ++ (d ++ drop 512 (drop (s + at) xs))) =
    ap (λ (t : List ℕ). t ++ (d ++ drop 512 (drop (s + at) xs))) (take-add s at xs)
    ∙ append_assoc (take s xs) (take at ys) (d ++ drop 512 (drop (s + at) xs)) in
    let r : take s xs ++ (take at (take 4096 ys) ++ d ++ drop (at + 512) (take 4096 ys)) ++ drop (s + 4096) xs
    ≡ take s xs ++ (take at ys ++ (d ++ drop 512 (drop (s + at) xs))) =
    append_assoc (take s xs) (take at (take 4096 ys) ++ d ++ drop (at + 512) (take 4096 ys)) (drop (s + 4096) xs)
    ∙ ap (λ (t : List ℕ). take s xs ++ t)
    (append_assoc (take at (take 4096 ys) ++ d) (drop (at + 512) (take 4096 ys)) (drop (s + 4096) xs)
    ∙ append_assoc (take at (take 4096 ys)) d (drop (at + 512) (take 4096 ys) ++ drop (s + 4096) xs)
    ∙ ap (λ (t : List ℕ). take at (take 4096 ys) ++ (d ++ t)) q
    ∙ ap (λ (t : List ℕ). t ++ (d ++ drop 512 (drop (s + at) xs))) (take-take at 4096 ys (omega arith))) in
    l ∙ sym r
