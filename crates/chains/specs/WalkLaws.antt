-- What `complete` answers after k clusters of a chain: each way out, and one cluster more.
use Rattle.std.specs.Prelude.{ℕ, zero, suc, ◌+◌, ◌-◌, ◌<◌, ◌≤◌, ◌&&◌, List, [], ◌∷◌, ◌++◌, ◌≡◌, get_or, set, replicate, Some, None}
use Rattle.std.proofs.Math.Bool.{true, false, not}
use Rattle.std.proofs.Math.Path.{refl, sym}
use Rattle.std.proofs.Common.{◌∙◌, ap, arith, add-one}
use Rattle.std.proofs.Math.Dec.{eqb, leb}
use Rattle.std.proofs.Math.ListN.{get_or-append}
use Rattle.std.proofs.lemmas.List.{set_at}
use Rattle.std.proofs.Math.Seq.{append_snoc}
use borrow.Author.Tests.{eq-eqb, ne_eqb, le-leb, lt-leb}
use Rattle.loops.specs.Loops.{all, some, listed, all-stop}
use Rattle.loops.specs.Choices.{and-no}
use Rattle.loops.specs.Facts.{listed-length, listed-at}
use Rattle.vdisk.specs.Drive.{clusters_of}
use Rattle.state.specs.State.{max_slots, no_st}
use Rattle.state.specs.Pairs.{pair_of}
use Rattle.state.specs.Staged.{slot_of}
use Rattle.state.specs.declared.w.Pair.{Pair}
use Rattle.state.specs.declared.w.St.{St}
use Rattle.chains.specs.Chains.{value_of, is_value, is_at, place_of, staged_at, is_complete, no_chain, complete_of}
use Rattle.chains.specs.Walk.{link_at, place_at, held_at, repeated_at, full_at, fits, link-next, linked-map, some-same, complete-is}
use Rattle.chains.specs.declared.Chain.{Chain}

-- the slot numbers after k clusters
abbrev pub slots_to : List Pair → List St → ℕ → ℕ → List ℕ
slots_to ps st start k = listed (place_at ps st start) k 0 ++ replicate (max_slots - k) 0

listed-more : (f : ℕ → ℕ) (n i : ℕ) → listed f (suc n) i ≡ listed f n i ++ (f (i + n) ∷ [])
unfolding listed
listed-more f zero i = let e : i + 0 ≡ i = omega arith in rw e
listed-more f (suc n) i =
    let e : i + suc n ≡ i + 1 + n = omega arith in
    rw e (ap (λ (xs : List ℕ). f i ∷ xs) (listed-more f n (i + 1)))

module _ (ps : List Pair) (st : List St) (start : ℕ) where
  pub slots-start : replicate max_slots 0 ≡ slots_to ps st start 0
  unfolding listed
  slots-start = refl

  pub slots-more : (xs : List ℕ) (k i : ℕ) → xs ≡ slots_to ps st start k → k < max_slots → place_at ps st start k ≡ i → set xs k i ≡ slots_to ps st start (k + 1)
  slots-more xs k i e h q =
      let f = place_at ps st start in
      let l : max_slots - k ≡ suc (max_slots - (k + 1)) = omega arith in
      let z : 0 + k ≡ k = omega arith in
      rw (e, l, set_at (listed f k 0) 0 (replicate (max_slots - (k + 1)) 0) i k (listed-length f k 0), add-one k, listed-more f k 0, z, q)
      (sym (append_snoc (listed f k 0) i (replicate (max_slots - suc k) 0)))

  pub slots-read : (k j : ℕ) → j < k → get_or (slots_to ps st start k) j 0 ≡ place_at ps st start j
  slots-read k j h =
      let f = place_at ps st start in
      let z : 0 + j ≡ j = omega arith in
      get_or-append (listed f k 0) (replicate (max_slots - k) 0) 0 j (rw (listed-length f k 0) h) ∙ listed-at f 0 k 0 j h ∙ rw z

  -- what a search among them says
  pub repeated-by : (xs : List ℕ) (k i : ℕ) → xs ≡ slots_to ps st start k → place_at ps st start k ≡ i
      → some (λ j. eqb (get_or xs j 0) i) k 0 ≡ repeated_at ps st start k
  repeated-by xs k i e q = some-same (λ j. eqb (get_or xs j 0) i) _ k 0 (λ j h. rw (e, slots-read k j (omega arith), q))

-- the k-th cluster, c: its link, its slot, and whether it fits
module _ (ps : List Pair) (start k c : ℕ) (q : c ≡ link_at ps start k) where
  pub link-by : (v : ℕ) → pair_of ps c ≡ Some v → v ≡ link_at ps start (k + 1)
  unfolding value_of
  link-by v e = sym (link-next ps start k ∙ rw (← q, e))

  pub place-by : (st : List St) (i : ℕ) → slot_of st c ≡ Some i → place_at ps st start k ≡ i
  unfolding place_of
  place-by st i e = rw (← q, e)

module _ (ps : List Pair) (st : List St) (start size k c : ℕ) (q : c ≡ link_at ps start k) where
  pub no-pair : pair_of ps c ≡ None → fits ps st start size k ≡ false
  unfolding fits is_value
  no-pair e = rw (← q, e)

  pub no-slot : slot_of st c ≡ None → fits ps st start size k ≡ false
  unfolding fits is_at
  no-slot e = rw (← q, e, and-no (is_value (pair_of ps c)) false refl)

  pub is-repeated : repeated_at ps st start k ≡ true → fits ps st start size k ≡ false
  unfolding fits
  is-repeated e = rw (e, and-no (held_at ps st start k) false refl)

  pub not-staged : (i : ℕ) → slot_of st c ≡ Some i → staged_at (get_or st i no_st) size k ≡ false → fits ps st start size k ≡ false
  unfolding fits
  not-staged i e f = and-no (held_at ps st start k && not (repeated_at ps st start k)) (full_at ps st start size k) (rw (place-by ps start k c q st i e) f)

  pub it-fits : (v i : ℕ) → pair_of ps c ≡ Some v → slot_of st c ≡ Some i → repeated_at ps st start k ≡ false → staged_at (get_or st i no_st) size k ≡ true
      → fits ps st start size k ≡ true
  unfolding fits is_value is_at
  it-fits v i a b r f =
      let p : is_value (pair_of ps (link_at ps start k)) ≡ true = rw (← q, a) in
      let s : is_at (slot_of st (link_at ps start k)) ≡ true = rw (← q, b) in
      let g : full_at ps st start size k ≡ true = rw (place-by ps start k c q st i b) f in
      rw (p, s, r, g)

module _ (ps : List Pair) (st : List St) (start size : ℕ) where
  none-by : is_complete ps st start size ≡ false → no_chain ≡ complete_of ps st start size
  unfolding complete_of
  none-by e = rw e

  pub complete-zero : clusters_of size ≡ 0 → no_chain ≡ complete_of ps st start size
  unfolding clusters_of
  complete-zero e = none-by (complete-is ps st start size ∙ rw (eq-eqb size 0 (omega arith)))

  pub complete-over : max_slots < clusters_of size → no_chain ≡ complete_of ps st start size
  complete-over h =
      none-by (complete-is ps st start size
      ∙ rw (lt-leb (clusters_of size) max_slots h, and-no (not (eqb size 0)) false refl))

  pub complete-stop : (n k : ℕ) → n ≡ clusters_of size → all (fits ps st start size) n 0 ≡ all (fits ps st start size) (n - k) k → k < n
      → fits ps st start size k ≡ false → no_chain ≡ complete_of ps st start size
  complete-stop n k e inv h f =
      let z : all (fits ps st start size) (clusters_of size) 0 ≡ false = rw e at (sym (all-stop (fits ps st start size) n k _ inv h f)) in
      none-by (complete-is ps st start size ∙ rw (z, and-no (not (eqb size 0) && leb (clusters_of size) max_slots) false refl))

  pub complete-open : (n : ℕ) → n ≡ clusters_of size → link_at ps start n < 0xFFF8 → no_chain ≡ complete_of ps st start size
  complete-open n e h =
      let z : leb 0xFFF8 (link_at ps start (clusters_of size)) ≡ false = rw e at (lt-leb 0xFFF8 (link_at ps start n) h) in
      none-by (complete-is ps st start size
      ∙ and-no (not (eqb size 0) && leb (clusters_of size) max_slots && all (fits ps st start size) (clusters_of size) 0) _ z)

  pub complete-whole : (n : ℕ) (xs : List ℕ) → n ≡ clusters_of size → (n ≡ 0 → ⊥) → n ≤ max_slots → all (fits ps st start size) n 0 ≡ true
      → 0xFFF8 ≤ link_at ps start n → xs ≡ slots_to ps st start n → ◌≡◌ {A = Chain} (record { found = true; slots = xs; n = n }) (complete_of ps st start size)
  unfolding complete_of clusters_of
  complete-whole n xs e h l f g q =
      let s : eqb size 0 ≡ false = ne_eqb size 0 (λ z. h (omega arith)) in
      let m : leb (clusters_of size) max_slots ≡ true = rw e at (le-leb n max_slots l) in
      let t : all (fits ps st start size) (clusters_of size) 0 ≡ true = rw e at f in
      let o : leb 0xFFF8 (link_at ps start (clusters_of size)) ≡ true = rw e at (le-leb 0xFFF8 (link_at ps start n) g) in
      let w : is_complete ps st start size ≡ true = complete-is ps st start size ∙ rw (s, m, t, o) in
      rw (w, q, linked-map (λ c. place_of (slot_of st c)) ps start (clusters_of size), e)
