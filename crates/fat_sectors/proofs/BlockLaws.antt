-- Walks over the 256 entries of a sector by blocks of 16, which fill a slot of 32 bytes.
use Rattle.std.specs.Prelude.{ℕ, ◌+◌, ◌-◌, ◌*◌, ◌<◌, ◌≤◌, true, false, List, ◌≡◌}
use Rattle.std.proofs.Common.{◌∙◌, arith}
use Rattle.loops.specs.Loops.{fold}
use Rattle.loops.specs.Facts.{fold-split}
use Rattle.slots.specs.Slots.{same_slot}
use Rattle.fat_sectors.proofs.ChangedLaws.{changed, entry-same}

-- the entries of a slot that is the same in both sectors are not changed
pub block-same : (shown written : List ℕ) (b : ℕ) → same_slot shown written (b * 32) ≡ true
    → (k : ℕ) → b * 16 ≤ k → k < b * 16 + 16 → changed shown written k ≡ false
block-same shown written b e = let q : b * 32 ≡ b * 16 * 2 = omega arith in entry-same shown written (b * 16) (rw q at e)

-- a fold over the entries that has come to a block goes on after it
pub fold-block : {S : Type 0} (turn : ℕ → S → S) (b : ℕ) (w s t : S) → w ≡ fold turn (256 - b * 16) (b * 16) s → b < 16 → t ≡ fold turn 16 (b * 16) s
    → w ≡ fold turn (256 - (b + 1) * 16) ((b + 1) * 16) t
fold-block turn b w s t inv h e =
    let p : 256 - b * 16 ≡ 16 + (256 - (b * 16 + 16)) = omega arith in
    let q : (b + 1) * 16 ≡ b * 16 + 16 = omega arith in
    inv ∙ rw (p, e, q) (fold-split turn 16 (256 - (b * 16 + 16)) (b * 16) s)
