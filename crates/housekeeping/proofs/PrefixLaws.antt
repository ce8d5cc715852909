-- The prefixes as the code finds them: cut out of their row, one from each start to the next.
use Rattle.std.specs.Prelude.{ℕ, zero, suc, ◌+◌, ◌-◌, ◌<◌, ◌≤◌, Bool, true, ◌&&◌, ◌||◌, List, [], ◌∷◌, ◌≡◌, refl, leb, length, get_or, take, drop}
use Rattle.std.proofs.Common.{sym, ◌∙◌, ap}
use native.Mathlib.Omega.{arith}
use borrow.Author.Tests.{leb-true}
use Rattle.loops.specs.Loops.{all, some, listed}
use Rattle.loops.specs.Choices.{and-0, and-1}
use Rattle.loops.specs.Facts.{all-at}
use Rattle.housekeeping.specs.Housekeeping.{is_prefix, prefixes, some_prefix, is_housekeeping}
use Rattle.housekeeping.specs.EndToEnd.{prefix_bytes}

-- where each prefix starts in the row; the last number is where the last one ends
unfoldable pub starts : List ℕ
starts = 0 ∷ 6 ∷ 8 ∷ 17 ∷ 27 ∷ 42 ∷ 57 ∷ 78 ∷ 89 ∷ 114 ∷ 126 ∷ []

-- what stands in the row from a to b
abbrev pub cut : ℕ → ℕ → List ℕ
cut a b = take (b - a) (drop a prefix_bytes)

abbrev pub cut_at : ℕ → List ℕ
cut_at i = cut (get_or starts i 0) (get_or starts (i + 1) 0)

-- cut at its starts, the row gives the ten prefixes in their order
pub cut-prefixes : listed cut_at 10 0 ≡ prefixes
unfolding listed starts prefix_bytes prefixes
cut-prefixes = refl

-- the starts rise, and lie in the row
starts-rise : all (λ i. leb (get_or starts i 0) (get_or starts (i + 1) 0) && leb (get_or starts (i + 1) 0) 126) 10 0 ≡ true
unfolding all starts
starts-rise = refl

pub start-in : (i : ℕ) → i < 10 → (get_or starts i 0 ≤ get_or starts (i + 1) 0) × (get_or starts (i + 1) 0 ≤ 126)
start-in i h =
    let e = all-at _ 10 0 i starts-rise (omega arith) (omega arith) in (
      leb-true _ _ (and-0 (leb (get_or starts i 0) (get_or starts (i + 1) 0)) (leb (get_or starts (i + 1) 0) 126) e),
      leb-true _ _ (and-1 (leb (get_or starts i 0) (get_or starts (i + 1) 0)) (leb (get_or starts (i + 1) 0) 126) e),
    )

-- one of a list that is given by its index
pub some-listed : (f : ℕ → List ℕ) (name : List ℕ) (n i : ℕ) → some_prefix (listed f n i) name ≡ some (λ k. is_prefix (f k) name) n i
unfolding listed some some_prefix
some-listed f name zero i = refl
some-listed f name (suc n) i = ap (λ (b : Bool). is_prefix (f i) name || b) (some-listed f name n (i + 1))

pub housekeeping-some : (name : List ℕ) → is_housekeeping name ≡ some (λ k. is_prefix (cut_at k) name) 10 0
unfolding is_housekeeping
housekeeping-some name = ap (λ (ps : List (List ℕ)). some_prefix ps name) (sym cut-prefixes) ∙ some-listed cut_at name 10 0

pub row-length : length prefix_bytes ≡ 126
unfolding prefix_bytes
row-length = refl
