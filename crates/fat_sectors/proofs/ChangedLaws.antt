-- Which entries of a FAT sector are written otherwise than shown.
use Rattle.std.specs.Prelude.{ℕ, ◌+◌, ◌-◌, ◌*◌, ◌<◌, ◌≤◌, Bool, true, false, List, ◌≡◌, get_or}
use Rattle.std.proofs.Math.Bool.{not}
use Rattle.std.proofs.Common.{subst, arith}
use Rattle.std.proofs.Math.Path.{ap}
use Rattle.std.proofs.Math.Dec.{eqb}
use borrow.Author.Tests.{eqb-true, eq-eqb}
use Rattle.loops.specs.Facts.{all-at}
use Rattle.sector.specs.Bytes.{word}
use Rattle.slots.specs.Slots.{same_byte, same_slot}

abbrev pub changed : List ℕ → List ℕ → ℕ → Bool
changed shown written i = not (eqb (word shown (i * 2)) (word written (i * 2)))

-- 16 entries fill a slot of 32 bytes; those of a slot that is the same are not changed
module _ (shown written : List ℕ) (i : ℕ) (equal : same_slot shown written (i * 2) ≡ true) where
  byte-same : (k : ℕ) → i * 2 ≤ k → k < i * 2 + 32 → get_or shown k 0 ≡ get_or written k 0
  unfolding same_slot
  byte-same k l h =
      let e : i * 2 + (k - i * 2) ≡ k = omega (arith, l) in
      eqb-true (get_or shown k 0) (get_or written k 0)
      (subst (λ (n : ℕ). eqb (get_or shown n 0) (get_or written n 0) ≡ true) e (all-at (same_byte shown written (i * 2)) 32 0 (k - i * 2) equal (omega arith) (omega (arith, l, h))))

  pub entry-same : (k : ℕ) → i ≤ k → k < i + 16 → changed shown written k ≡ false
  unfolding word
  entry-same k l h =
      let p = byte-same (k * 2) (omega (arith, l)) (omega (arith, h)) in
      let q = byte-same (k * 2 + 1) (omega (arith, l)) (omega (arith, h)) in
      ap not (eq-eqb (word shown (k * 2)) (word written (k * 2)) (rw (p, q)))
