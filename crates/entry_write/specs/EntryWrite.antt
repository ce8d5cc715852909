-- One entry of the entry listing (document 01, "The entry listing"): a FAT write with that entry alone differing.
use Rattle.std.specs.Prelude.{ℕ, ◌+◌, ◌*◌, ◌/◌, ◌%◌, true, false, not, List, [], eqb, get_or, set, replicate}
use Rattle.loops.specs.Loops.{count}
use Rattle.state.specs.State.{max_pairs, pair0, initial}
use Rattle.state.specs.Setters.{with_rw, with_want_rw}
use Rattle.state.specs.Queries.{fat1_of}
use Rattle.state.specs.declared.w.Pair.{Pair}
use Rattle.state.specs.declared.w.W.{W}
use Rattle.judge.specs.Classify.{SectorWrite, sector_write}
use Rattle.write.specs.Write.{Written}
use Rattle.entry_write.specs.declared.Row.{Row}

-- first session cluster 7, writing on
unfoldable pub drive : W
drive = with_want_rw (with_rw (initial 7) true) true

-- a FAT sector with its 256 entries 0 but for entry k, which is v, low byte first
unfoldable pub entry_sector : ℕ → ℕ → List ℕ
entry_sector k v = set (set (replicate 512 0) (k % 256 * 2) (v % 256)) (k % 256 * 2 + 1) (v / 256)

-- one FAT write, of the first copy, with that entry alone differing, on a drive without files; no medium, not busy
unfoldable pub entry_write : ℕ → ℕ → ℕ → SectorWrite
entry_write k shown new = sector_write (1 + k / 256) (entry_sector k shown) (entry_sector k new) false [] [] [] [] [] []

-- how many of the 40 places hold a pair
unfoldable pub pairs_held : List Pair → ℕ
pairs_held ps = count (λ i. not (eqb (get_or ps i pair0).c 0)) max_pairs 0

-- entry, answer (0 taken), pairs held, FAT[1] (65535 if unset)
unfoldable pub row_of : ℕ → Written → Row
row_of k r = record { entry = k; answer = r.number; pairs = pairs_held r.w.pair; fat1 = fat1_of r.w }
