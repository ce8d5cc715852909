-- The words of a file's header and its CRC, summed up piece by piece.
use Rattle.std.specs.Prelude.{ℕ, ◌+◌, ◌-◌, ◌<◌, ◌≤◌, min, List, [], ◌∷◌, ◌++◌, ◌≡◌, refl, eqb, leb, length, take, drop}
use Rattle.std.proofs.Common.{append-nil, append_assoc, sym, ◌∙◌, ap, arith, length-drop, drop_of_length-le, take_all, ne_eqb, leb-true, leb-false}
use Rattle.std.proofs.Math.ListN.{get_or-append}
use Rattle.loops.specs.Loops.{pick}
use Rattle.loops.specs.Choices.{either}
use Rattle.sector.specs.Bytes.{word, word32}
use Rattle.crc.specs.Crc.{crc_byte, crc_of}
use Rattle.body.specs.Body.{marker_at, covered}
use Rattle.body.specs.BodyLaws.{take-both, drop-both}
use Rattle.body.specs.declared.Sum.{Sum}

-- what the CRC goes over of the bytes from file offset at on
unfoldable pub covered_from : ℕ → List ℕ → List ℕ
covered_from at p = take (marker_at - 12 - (at - 12)) (drop (12 - at) p) ++ drop (marker_at + 12 - at) p

unfoldable pub sum_of : List ℕ → Sum
sum_of d = record { word1 = word32 d 4; word2 = word32 d 8; crc = crc_of 0xFFFF (covered d) }

-- with the bytes from file offset at on
unfoldable pub summed : Sum → ℕ → List ℕ → Sum
summed s at p =
    record {
      word1 = pick (eqb at 0) (word32 p 4) s.word1;
      word2 = pick (eqb at 0) (word32 p 8) s.word2;
      crc = crc_of s.crc (covered_from at p);
    }

-- two parts of which one is empty change places
change : (a t e z : List ℕ) → t ++ e ≡ e ++ t → (a ++ t) ++ (e ++ z) ≡ (a ++ e) ++ (t ++ z)
change a t e z q =
    append_assoc a t (e ++ z)
    ∙ ap (λ (u : List ℕ). a ++ u) (sym (append_assoc t e z) ∙ ap (λ (u : List ℕ). u ++ z) q ∙ append_assoc e t z)
    ∙ sym (append_assoc a e (t ++ z))

pub covered-more : (xs ys : List ℕ) → covered (xs ++ ys) ≡ covered xs ++ covered_from (length xs) ys
unfolding covered covered_from
covered-more xs ys =
    let n = length xs in
    let t = take (marker_at - 12 - (n - 12)) (drop (12 - n) ys) in
    let e = drop (marker_at + 12) xs in
    let l = length-drop 12 xs in
    let d = take-both (marker_at - 12) (drop 12 xs) (drop (12 - n) ys) in
    ap (λ (u : List ℕ). take (marker_at - 12) u ++ drop (marker_at + 12) (xs ++ ys)) (drop-both 12 xs ys)
    ∙ ap (λ (u : List ℕ). u ++ drop (marker_at + 12) (xs ++ ys)) (rw l at d)
    ∙ ap (λ (u : List ℕ). (take (marker_at - 12) (drop 12 xs) ++ t) ++ u) (drop-both (marker_at + 12) xs ys)
    ∙ change (take (marker_at - 12) (drop 12 xs)) t e (drop (marker_at + 12 - n) ys)
    (either (leb n (marker_at + 12))
    (λ q. let z : e ≡ [] = drop_of_length-le xs {i = marker_at + 12} (leb-true n (marker_at + 12) q) in rw z (append-nil t))
    (λ q. let w = leb-false n (marker_at + 12) q in
    let z : marker_at - 12 - (n - 12) ≡ 0 = omega arith in rw z (sym (append-nil e))))

crc-append : (c : ℕ) (xs ys : List ℕ) → crc_of c (xs ++ ys) ≡ crc_of (crc_of c xs) ys
unfolding crc_of
crc-append c [] ys = refl
crc-append c (x ∷ xs) ys = crc-append (crc_byte c x) xs ys

word32-append : (xs ys : List ℕ) (at : ℕ) → at + 3 < length xs → word32 (xs ++ ys) at ≡ word32 xs at
unfolding word32 word
word32-append xs ys at h =
    rw (
      get_or-append xs ys 0 at (omega arith),
      get_or-append xs ys 0 (at + 1) (omega arith),
      get_or-append xs ys 0 (at + 2) (omega arith),
      get_or-append xs ys 0 (at + 2 + 1) (omega arith),
    )

pub sum-start : sum_of [] ≡ record { word1 = 0; word2 = 0; crc = 0xFFFF }
unfolding sum_of word32 word covered crc_of
sum-start = refl

crc-more : (xs ys : List ℕ) → crc_of (crc_of 0xFFFF (covered xs)) (covered_from (length xs) ys) ≡ crc_of 0xFFFF (covered (xs ++ ys))
crc-more xs ys = sym (ap (crc_of 0xFFFF) (covered-more xs ys) ∙ crc-append 0xFFFF (covered xs) (covered_from (length xs) ys))

-- the header is in the first piece
pub sum-first : (ys : List ℕ) → summed (sum_of []) 0 ys ≡ sum_of ys
unfolding summed sum_of
sum-first ys = rw (crc-more [] ys)

pub sum-more : (xs ys : List ℕ) (at : ℕ) → length xs ≡ at → 12 ≤ at → summed (sum_of xs) at ys ≡ sum_of (xs ++ ys)
unfolding summed sum_of
sum-more xs ys at n h =
    rw (← n, ne_eqb (length xs) 0 (λ z. omega arith), crc-more xs ys, word32-append xs ys 4 (omega arith), word32-append xs ys 8 (omega arith))

-- a part up to the end, or to a place past it
take-cut : (n c : ℕ) (p : List ℕ) → c ≡ min n (length p) → take c p ≡ take n p
take-cut n c p e =
    either (leb n (length p)) (λ q. let w = leb-true n (length p) q in let z : c ≡ n = omega arith in rw z)
    (λ q. let w = leb-false n (length p) q in
    take_all c p (omega arith) ∙ sym (take_all n p (omega arith)))

drop-cut : (n c : ℕ) (p : List ℕ) → c ≡ min n (length p) → drop c p ≡ drop n p
drop-cut n c p e =
    either (leb n (length p)) (λ q. let w = leb-true n (length p) q in let z : c ≡ n = omega arith in rw z)
    (λ q. let w = leb-false n (length p) q in
    drop_of_length-le p {i = c} (omega arith) ∙ sym (drop_of_length-le p {i = n} (omega arith)))

-- how long the part before the marker is
before-low : (x n : ℕ) → min (16384 + x) n - min x n ≡ min 16384 (n - min x n)
before-low x n = omega arith

before-high : (at n : ℕ) → 12 ≤ at → min (marker_at - at) n - 0 ≡ min (marker_at - 12 - (at - 12)) (n - 0)
before-high at n h =
    let x : marker_at - 12 - (at - 12) ≡ marker_at - at = omega arith in
    let y : n - 0 ≡ n = omega arith in
    let z : min (marker_at - at) n - 0 ≡ min (marker_at - at) n = omega arith in
    rw (x, y, z)

before-length : (at n : ℕ) → min (marker_at - at) n - min (12 - at) n ≡ min (marker_at - 12 - (at - 12)) (n - min (12 - at) n)
before-length at n =
    either (leb 12 at)
    (λ q. let w = leb-true 12 at q in
    let z : min (12 - at) n ≡ 0 = omega arith in
    rw z (before-high at n w))
    (λ q. let w = leb-false 12 at q in
    let y : marker_at - at ≡ 16384 + (12 - at) = omega arith in
    let z : marker_at - 12 - (at - 12) ≡ 16384 = omega arith in
    rw (y, z) (before-low (12 - at) n))

-- the two parts that the CRC goes over
pub covered-parts : (p : List ℕ) (at h m a c d : ℕ) → h ≡ min (12 - at) (length p) → m ≡ min (marker_at - at) (length p) → a ≡ min (marker_at + 12 - at) (length p)
    → d ≡ crc_of c (take (m - h) (drop h p)) → crc_of d (take (length p - a) (drop a p)) ≡ crc_of c (covered_from at p)
unfolding covered_from
covered-parts p at h m a c d e f g i =
    let n : m - h ≡ min (marker_at - 12 - (at - 12)) (length (drop h p)) = rw (length-drop h p, e, f) (before-length at (length p)) in
    let s : take (m - h) (drop h p) ≡ take (marker_at - 12 - (at - 12)) (drop (12 - at) p) =
    take-cut (marker_at - 12 - (at - 12)) (m - h) (drop h p) n ∙ ap (take (marker_at - 12 - (at - 12))) (drop-cut (12 - at) h p e) in
    let l : length (drop a p) ≤ length p - a = rw (length-drop a p) (omega arith) in
    let t : take (length p - a) (drop a p) ≡ drop (marker_at + 12 - at) p = take_all (length p - a) (drop a p) l ∙ drop-cut (marker_at + 12 - at) a p g in
    rw (i, s, t) (sym (crc-append c (take (marker_at - 12 - (at - 12)) (drop (12 - at) p)) (drop (marker_at + 12 - at) p)))
