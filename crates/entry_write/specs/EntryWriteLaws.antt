-- Laws of an entry's write and row.
use Rattle.std.specs.Prelude.{ℕ, zero, suc, ◌+◌, ◌/◌, Bool, false, not, List, [], ◌≡◌, refl}
use Rattle.std.proofs.Common.{arith}
use Rattle.loops.specs.Loops.{count}
use Rattle.loops.specs.Choices.{either}
use Rattle.state.specs.State.{max_pairs}
use Rattle.state.specs.Pairs.{free_pair_here, free_pairs}
use Rattle.state.specs.declared.w.Pair.{Pair}
use Rattle.state.specs.Queries.{fat1_of}
use Rattle.state.specs.declared.w.W.{W}
use Rattle.judge.specs.Classify.{sector_write}
use Rattle.write.specs.Write.{Written, write}
use Rattle.entry_write.specs.EntryWrite.{entry_sector, entry_write, pairs_held, row_of}

-- places in use and free places are all there are
count-not : (p : ℕ → Bool) (n i : ℕ) → count p n i + count (λ k. not (p k)) n i ≡ n
unfolding count
count-not p zero i = refl
count-not p (suc n) i =
    let h = count-not p n (i + 1) in
    either (p i) (λ e. rw e (omega arith)) (λ e. rw e (omega arith))

pub free-held : (ps : List Pair) → free_pairs ps + pairs_held ps ≡ max_pairs
unfolding free_pairs pairs_held
free-held ps = count-not (free_pair_here ps) max_pairs 0

-- what the write leaves, by its two sectors
module _ (k shown new : ℕ) (g d : List ℕ) (was : g ≡ entry_sector k shown) (becomes : d ≡ entry_sector k new) (w v : W) (n : ℕ) where
  pub by-sectors : n ≡ (write (sector_write (1 + k / 256) g d false [] [] [] [] [] []) w).number
      → v ≡ (write (sector_write (1 + k / 256) g d false [] [] [] [] [] []) w).w
      → (n ≡ (write (entry_write k shown new) w).number) × (v ≡ (write (entry_write k shown new) w).w)
  unfolding entry_write
  by-sectors p q = (rw (← was, ← becomes) p, rw (← was, ← becomes) q)

-- the row, by its parts
pub row-by : (k answer pairs fat1 : ℕ) (w : W) (r : Written) → answer ≡ r.number → w ≡ r.w → pairs ≡ pairs_held w.pair → fat1 ≡ fat1_of w
    → record { entry = k; answer = answer; pairs = pairs; fat1 = fat1 } ≡ row_of k r
unfolding row_of
row-by k answer pairs fat1 w r a b p f = rw (p, f, a, b)
