-- What a call does to the four marks of one row.
use Rattle.std.specs.Prelude.{ℕ, Bool, ◌&&◌, ◌||◌, List, ◌≡◌, eqb, get_or}
use Rattle.vdisk.specs.Ids.{turned, freed, gone, moved}

-- Taken, number 0, it turns row j where `turns` says so, frees it where `zeroes` and moves it where `moves` does; nothing else changes a mark.
pub record Does (j number : ℕ) (before after : List ℕ) (turns zeroes moves : Bool) : Type 0 where
  pub turn : turned (get_or after j 0) ≡ ((eqb number 0 && turns) || turned (get_or before j 0))
  pub free : freed (get_or after j 0) ≡ ((eqb number 0 && zeroes) || freed (get_or before j 0))
  pub left : gone (get_or after j 0) ≡ gone (get_or before j 0)
  pub move : moved (get_or after j 0) ≡ ((eqb number 0 && moves) || moved (get_or before j 0))
