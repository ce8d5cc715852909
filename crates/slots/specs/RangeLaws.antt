-- What `all` and `any` of a range of numbers say, and slots that are cut out and compared.
use Rattle.std.specs.Prelude.{ℕ, zero, suc, ◌+◌, ◌<◌, ◌≤◌, Bool, true, false, ◌&&◌, List, ◌≡◌, refl, length, take, drop}
use Rattle.std.specs.List.{range_with_len, list_all, list_any}
use Rattle.std.proofs.Common.{arith, length-drop, length-take-le, get_or-take, get_or-drop}
use Rattle.loops.specs.Loops.{pick, all, some}
use Rattle.sector.specs.Bytes.{same, same_at}
use Rattle.slots.specs.Slots.{same_byte, same_slot}

and-pick : (a b : Bool) → (a && b) ≡ pick a b false
and-pick true b = refl
and-pick false b = refl

pub all-range : (p : ℕ → Bool) (n i : ℕ) → list_all p (range_with_len i n) ≡ all p n i
unfolding all
all-range p zero i = refl
all-range p (suc n) i = rw (all-range p n (i + 1)) (and-pick (p i) (all p n (i + 1)))

pub some-range : (p : ℕ → Bool) (n i : ℕ) → list_any p (range_with_len i n) ≡ some p n i
unfolding some
some-range p zero i = refl
some-range p (suc n) i = rw (some-range p n (i + 1))

all-same : (p q : ℕ → Bool) (n i : ℕ) → ((k : ℕ) → i ≤ k → k < i + n → p k ≡ q k) → all p n i ≡ all q n i
unfolding all
all-same p q zero i f = refl
all-same p q (suc n) i f = rw (f i (omega arith) (omega arith), all-same p q n (i + 1) (λ k l h. f k (omega arith) (omega arith)))

-- the 32 bytes at a place, cut out of two sectors
pub same-cut : (a b : List ℕ) (at n : ℕ) → n ≡ 32 → at + 32 ≤ length a → same (take n (drop at a)) (take n (drop at b)) ≡ same_slot a b at
unfolding same same_slot
same-cut a b at n e h =
    rw (e, length-take-le 32 (drop at a) (omega (arith, length-drop at a)))
    (all-same (same_at (take 32 (drop at a)) (take 32 (drop at b))) (same_byte a b at) 32 0
    (λ k l i. rw (get_or-take 32 (drop at a) k 0 i, get_or-take 32 (drop at b) k 0 i, get_or-drop at a k 0, get_or-drop at b k 0)))
