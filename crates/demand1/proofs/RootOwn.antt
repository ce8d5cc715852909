-- What Changes says of a root sector's slots is what the handler reads of them.
use Rattle.std.specs.Prelude.{ℕ, ◌+◌, ◌*◌, Bool, not, ◌&&◌, ◌≡◌, leb}
use Rattle.std.proofs.Math.Bool.{true, false}
use Rattle.std.proofs.Math.Path.{refl}
use Rattle.std.proofs.Common.{arith}
use Rattle.std.proofs.Math.Dec.{eqb}
use borrow.Author.Tests.{leb-true, leb-false, le-leb, lt-leb}
use Rattle.loops.specs.Loops.{some}
use Rattle.loops.specs.Choices.{either, and-no}
use Rattle.slots.specs.Slots.{same_slot}
use Rattle.state.specs.declared.w.W.{W}
use Rattle.root_sectors.specs.Root.{RootWrite, slot_at, kept_at}
use Rattle.judge.specs.Classify.{SectorWrite, root_of}
use Rattle.admits.proofs.ByteLaws.{kept-slot}
use Rattle.demand1.specs.Changes.{stores_slot, slot_stored}
use Rattle.demand1.proofs.Turns.{some-same}

-- root slot k is one that the handler keeps
unfoldable pub slot_kept : RootWrite → ℕ → Bool
slot_kept f k = some (λ i. kept_at f i && eqb (slot_at f i) k) 16 0

module _ (x : SectorWrite) (w : W) (s : ℕ) where
  pub stores-same : (i : ℕ) → stores_slot x s i ≡ kept_at (root_of x w s) i
  unfolding stores_slot kept_at
  stores-same i =
      let n = s * 16 + i in
      either (leb n 6)
      (λ e. let l = leb-true n 6 e in rw (e, lt-leb 7 n (omega arith), and-no (not (same_slot x.shown x.written (i * 32))) false refl))
      (λ e. let l = leb-false n 6 e in
      rw (e, le-leb 7 n (omega arith), kept-slot x i) (both (not (same_slot x.shown x.written (i * 32)))))
    where
      both : (b : Bool) → b ≡ (b && true)
      both true = refl
      both false = refl

  pub stored-same : (k : ℕ) → slot_stored x s k ≡ slot_kept (root_of x w s) k
  unfolding slot_stored slot_kept
  stored-same k =
      some-same (λ i. stores_slot x s i && eqb (s * 16 + i) k) (λ i. kept_at (root_of x w s) i && eqb (slot_at (root_of x w s) i) k) 16 0 (λ i. rw (stores-same i))
