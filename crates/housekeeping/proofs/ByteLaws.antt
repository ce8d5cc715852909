-- A prefix, cut out of the row, byte by byte.
use Rattle.std.specs.Prelude.{ℕ, ◌+◌, ◌-◌, ◌<◌, ◌≤◌, Bool, true, false, List, ◌≡◌, eqb, length, get_or, drop}
use Rattle.std.proofs.Common.{sym, ◌∙◌, length-drop, length-take-le, get_or-take, get_or-drop}
use native.Mathlib.Omega.{arith}
use borrow.Author.Tests.{le-leb, lt-leb, eq-eqb, ne_eqb}
use Rattle.loops.specs.Loops.{all, all-start, all-go, all-stop, all-end}
use Rattle.housekeeping.specs.Housekeeping.{is_prefix}
use Rattle.housekeeping.specs.EndToEnd.{prefix_bytes}
use Rattle.housekeeping.proofs.PrefixLaws.{cut, row-length}

cut-length : (a b : ℕ) → a ≤ b → b ≤ 126 → length (cut a b) ≡ b - a
cut-length a b l h = length-take-le (b - a) (drop a prefix_bytes) (omega (arith, length-drop a prefix_bytes, row-length))

cut-at : (a b i : ℕ) → a ≤ i → i < b → get_or (cut a b) (i - a) 0 ≡ get_or prefix_bytes i 0
cut-at a b i l h =
    let e : a + (i - a) ≡ i = omega arith in
    get_or-take (b - a) (drop a prefix_bytes) (i - a) 0 (omega arith) ∙ get_or-drop a prefix_bytes (i - a) 0 ∙ rw e

abbrev same_at : ℕ → ℕ → List ℕ → ℕ → Bool
same_at a b name k = eqb (get_or (cut a b) k 0) (get_or name k 0)

-- are the bytes of the row from i to b those of the name from i - a on
unfoldable pub prefix_from : ℕ → ℕ → List ℕ → ℕ → Bool
prefix_from a b name i = all (same_at a b name) (b - a - (i - a)) (i - a)

module _ (a b : ℕ) (name : List ℕ) (l : a ≤ b) (h : b ≤ 126) where
  pub prefix-short : length name < b - a → false ≡ is_prefix (cut a b) name
  unfolding is_prefix
  prefix-short s = rw (cut-length a b l h, lt-leb (b - a) (length name) s)

  pub prefix-start : b - a ≤ length name → is_prefix (cut a b) name ≡ prefix_from a b name a
  unfolding is_prefix prefix_from
  prefix-start s =
      let e : a - a ≡ 0 = omega arith in
      rw (cut-length a b l h, le-leb (b - a) (length name) s, e, ← all-start (same_at a b name) (b - a))

module _ (a b : ℕ) (name : List ℕ) (i : ℕ) (w : Bool) (inv : w ≡ prefix_from a b name i) (l : a ≤ i) where
  pub prefix-go : i < b → get_or prefix_bytes i 0 ≡ get_or name (i - a) 0 → w ≡ prefix_from a b name (i + 1)
  unfolding prefix_from
  prefix-go h e =
      let n : i + 1 - a ≡ i - a + 1 = omega arith in
      rw n (all-go (same_at a b name) (b - a) (i - a) w inv (omega arith) (eq-eqb _ _ (cut-at a b i l h ∙ e)))

  pub prefix-stop : i < b → (get_or prefix_bytes i 0 ≡ get_or name (i - a) 0 → ⊥) → false ≡ w
  unfolding prefix_from
  prefix-stop h e =
      all-stop (same_at a b name) (b - a) (i - a) w inv (omega arith) (ne_eqb _ _ (λ q. e (sym (cut-at a b i l h) ∙ q)))

  pub prefix-end : b ≤ i → true ≡ w
  unfolding prefix_from
  prefix-end h = all-end (same_at a b name) (b - a) (i - a) w inv (omega arith)
