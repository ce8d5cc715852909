-- The medium's own search finds the free block that the rules say, and leaves the hint past it, or where it ended.
use Prim.Native.Nat.{ℕ, zero, suc, ◌+◌, ◌-◌, ◌<◌, ◌≤◌, max}
use Rattle.std.specs.Prelude.{Bool, true, false, ◌&&◌, List, ◌≡◌, ltb, length}
use Rattle.std.proofs.Common.{true≢false, ◌∙◌, arith}
use Rattle.std.proofs.Math.Path.{sym}
use Rattle.std.proofs.Math.Dec.{leb}
use borrow.Author.Tests.{leb-true, ltb-true, ltb-false, le-leb}
use Rattle.loops.specs.Loops.{pick, some, first}
use Rattle.loops.specs.Choices.{either, pick-by, and-of, and-0, and-1}
use Rattle.loops.specs.Facts.{some-in, some-at, first-at, first-le, first-below}
use Rattle.medium.specs.Medium.{free_at, search_end, next_free}
use Rattle.admits.specs.Admits.{free_from, some_free, first_free}
use Rattle.admits.proofs.ByteLaws.{first-is}

pub first-ge : (p : ℕ → Bool) (n i : ℕ) → i ≤ first p n i
unfolding first
first-ge p zero i = omega arith
first-ge p (suc n) i = pick-by (λ (k : ℕ). i ≤ k) (p i) i (first p n (i + 1)) (λ q. omega arith) (λ q. omega (arith, first-ge p n (i + 1)))

module _ (fat : List ℕ) (hint : ℕ) where
  -- where the search ends: no earlier than it starts, and no later than the table
  end-from : max hint 2 ≤ search_end fat hint
  unfolding search_end
  end-from = first-ge (free_at fat) (length fat - max hint 2) (max hint 2)

  end-to : search_end fat hint ≤ max hint 2 + (length fat - max hint 2)
  unfolding search_end
  end-to = first-le (free_at fat) (length fat - max hint 2) (max hint 2)

  end-free : search_end fat hint < length fat → free_at fat (search_end fat hint) ≡ true
  unfolding search_end
  end-free h = let a = end-from in first-at (free_at fat) (length fat - max hint 2) (max hint 2) (omega arith)

  before-end : (k : ℕ) → k < search_end fat hint → free_from fat hint k ≡ false
  unfolding free_from search_end
  before-end k h =
      either (free_from fat hint k)
      (λ e. let p = and-0 (leb hint k && leb 2 k) (free_at fat k) e in
      let a = leb-true hint k (and-0 (leb hint k) (leb 2 k) p) in
      let b = leb-true 2 k (and-1 (leb hint k) (leb 2 k) p) in
      let q = and-1 (leb hint k && leb 2 k) (free_at fat k) e in
      absurd (true≢false (sym q ∙ first-below (free_at fat) (length fat - max hint 2) (max hint 2) k (omega arith) h)))
      (λ e. e)

  at-end : search_end fat hint < length fat → free_from fat hint (search_end fat hint) ≡ true
  unfolding free_from
  at-end h =
      let a = end-from in
      let e = search_end fat hint in
      and-of (leb hint e && leb 2 e) (free_at fat e) (and-of (leb hint e) (leb 2 e) (le-leb hint e (omega arith)) (le-leb 2 e (omega arith))) (end-free h)

  some-end : search_end fat hint < length fat → some_free fat hint ≡ true
  unfolding some_free
  some-end h = some-at (free_from fat hint) (length fat) 0 (search_end fat hint) (omega arith) (omega arith) (at-end h)

  none-free : length fat ≤ search_end fat hint → some_free fat hint ≡ false
  unfolding some_free
  none-free h =
      either (some (free_from fat hint) (length fat) 0)
      (λ e. some-in (free_from fat hint) (length fat) 0 e (λ k a b q. absurd (true≢false (sym q ∙ before-end k (omega arith)))))
      (λ e. e)

  first-end : search_end fat hint < length fat → search_end fat hint ≡ first_free fat hint
  unfolding first_free
  first-end h = sym (first-is (free_from fat hint) (length fat) (search_end fat hint) (omega arith) before-end at-end)

  -- one is found where there is any
  pub search-found : (next_free fat hint).found ≡ some_free fat hint
  unfolding next_free
  search-found =
      either (ltb (search_end fat hint) (length fat))
      (λ e. rw (e, some-end (ltb-true (search_end fat hint) (length fat) e)))
      (λ e. rw (e, none-free (ltb-false (search_end fat hint) (length fat) e)))

  -- it is the first
  pub search-block : some_free fat hint ≡ true → (next_free fat hint).block ≡ first_free fat hint
  unfolding next_free
  search-block s =
      either (ltb (search_end fat hint) (length fat))
      (λ e. rw e (first-end (ltb-true (search_end fat hint) (length fat) e)))
      (λ e. absurd (true≢false (sym s ∙ none-free (ltb-false (search_end fat hint) (length fat) e))))

  pub search-hint : (next_free fat hint).hint ≡ pick (some_free fat hint) (first_free fat hint + 1) (max (max hint 2) (length fat))
  unfolding next_free
  search-hint =
      either (ltb (search_end fat hint) (length fat))
      (λ e. let h = ltb-true (search_end fat hint) (length fat) e in rw (e, some-end h, first-end h))
      (λ e. let h = ltb-false (search_end fat hint) (length fat) e in
      let a = end-from in
      let b = end-to in
      rw (e, none-free h) (omega arith))
