-- A list changed row by row, each by its row and element; and the loop that writes it in place.
use Rattle.std.specs.Prelude.{ℕ, zero, suc, ◌+◌, ◌<◌, ◌≤◌, List, [], ◌∷◌, ◌++◌, ◌≡◌, refl, length, get_or, take, drop, set}
use Rattle.std.proofs.Common.{append-nil, sym, ◌∙◌, ap, arith, add-one, drop_of_length-le, drop-cons, take-suc, take_all, length-take-le}
use Rattle.std.proofs.lemmas.List.{set_at, get_or_at}
use Rattle.std.proofs.Math.Seq.{append_snoc}

unfoldable pub rows_from : (ℕ → ℕ → ℕ) → ℕ → List ℕ → List ℕ
rows_from f i [] = []
rows_from f i (x ∷ xs) = f i x ∷ rows_from f (i + 1) xs

-- row j becomes what f gives of j and of what it was
abbrev pub rows : (ℕ → ℕ → ℕ) → List ℕ → List ℕ
rows f xs = rows_from f 0 xs

rows_from-at : (f : ℕ → ℕ → ℕ) (i : ℕ) (xs : List ℕ) (j : ℕ) → j < length xs → get_or (rows_from f i xs) j 0 ≡ f (i + j) (get_or xs j 0)
unfolding rows_from
rows_from-at f i [] j h = absurd (omega arith)
rows_from-at f i (x ∷ xs) zero h = let e : i + 0 ≡ i = omega arith in rw e
rows_from-at f i (x ∷ xs) (suc j) h = let e : i + suc j ≡ i + 1 + j = omega arith in rw e (rows_from-at f (i + 1) xs j (omega arith))

pub rows-at : (f : ℕ → ℕ → ℕ) (xs : List ℕ) (j : ℕ) → j < length xs → get_or (rows f xs) j 0 ≡ f j (get_or xs j 0)
rows-at f xs j h = let e : 0 + j ≡ j = omega arith in rw e at (rows_from-at f 0 xs j h)

pub rows-length : (f : ℕ → ℕ → ℕ) (i : ℕ) (xs : List ℕ) → length (rows_from f i xs) ≡ length xs
unfolding rows_from
rows-length f i [] = refl
rows-length f i (x ∷ xs) = ap suc (rows-length f (i + 1) xs)

-- the loop: the first i rows are written, the others as they were
module _ (f : ℕ → ℕ → ℕ) (d t : List ℕ) (i : ℕ) (inv : t ≡ take i (rows f d) ++ drop i d) where
  pub rows-read : i < length d → get_or t i 0 ≡ get_or d i 0
  rows-read h =
      let n = rows-length f 0 d in
      rw (inv, drop-cons d i 0 h, get_or_at (take i (rows f d)) (get_or d i 0) (drop (suc i) d) 0 i (length-take-le i (rows f d) (omega arith)))

  pub rows-more : (v : ℕ) → v ≡ f i (get_or t i 0) → i < length d → set t i v ≡ take (i + 1) (rows f d) ++ drop (i + 1) d
  rows-more v e h =
      let n = rows-length f 0 d in
      let q : v ≡ get_or (rows f d) i 0 = e ∙ ap (f i) (rows-read h) ∙ sym (rows-at f d i h) in
      rw (inv, drop-cons d i 0 h, set_at (take i (rows f d)) (get_or d i 0) (drop (suc i) d) v i (length-take-le i (rows f d) (omega arith)), add-one i, take-suc (rows f d) i 0 (omega arith), q)
      (sym (append_snoc (take i (rows f d)) (get_or (rows f d) i 0) (drop (suc i) d)))

  pub rows-end : length d ≤ i → t ≡ rows f d
  rows-end h =
      let n = rows-length f 0 d in
      rw (inv, take_all i (rows f d) (omega arith), drop_of_length-le d {i = i} h) (append-nil (rows f d))

-- two changes that agree on every row
rows_from-same : (f g : ℕ → ℕ → ℕ) (i : ℕ) (xs : List ℕ) → ((j x : ℕ) → j < i + length xs → f j x ≡ g j x) → rows_from f i xs ≡ rows_from g i xs
unfolding rows_from
rows_from-same f g i [] e = refl
rows_from-same f g i (x ∷ xs) e = rw (e i x (omega arith), rows_from-same f g (i + 1) xs (λ j y h. e j y (omega arith)))

pub rows-same : (f g : ℕ → ℕ → ℕ) (xs : List ℕ) → ((j x : ℕ) → j < length xs → f j x ≡ g j x) → rows f xs ≡ rows g xs
rows-same f g xs e = rows_from-same f g 0 xs (λ j x h. e j x (omega arith))
