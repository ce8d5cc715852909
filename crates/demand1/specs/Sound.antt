-- A state as a session has it.
use Rattle.std.specs.Prelude.{ℕ, ◌<◌, ◌≡◌, length, get_or}
use Rattle.records.specs.Records.{max_records, no_rec}
use Rattle.state.specs.State.{max_pairs, max_slots, pair0, no_st}
use Rattle.state.specs.declared.w.W.{W}

-- of n places, each in use for a number or free with 0, no two are in use for one
abbrev pub NoneTwice : (ℕ → ℕ) → ℕ → Type 0
NoneTwice number n = (i j : ℕ) → i < n → j < n → (number i ≡ 0 → ⊥) → number i ≡ number j → i ≡ j

-- 40 pair places, 10 records and 28 staging slots, each with eight block numbers; no cluster has two pairs or two staging slots, and no root slot two
-- records
pub record Sound (w : W) : Type 0 where
  pub pairs : length w.pair ≡ max_pairs
  pub recs : length w.rec ≡ max_records
  pub slots : length w.st ≡ max_slots
  pub blocks : (i : ℕ) → i < max_slots → length (get_or w.st i no_st).blk ≡ 8
  pub one-pair : NoneTwice (λ i. (get_or w.pair i pair0).c) max_pairs
  pub one-rec : NoneTwice (λ i. (get_or w.rec i no_rec).slot) max_records
  pub one-slot : NoneTwice (λ i. (get_or w.st i no_st).c) max_slots
