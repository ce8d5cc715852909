-- A chain followed link by link: where it leads, and the test of each cluster on the way.
use Prim.Native.Nat.{ℕ, zero, suc, ◌+◌, ◌-◌, ◌<◌}
use Rattle.std.specs.Prelude.{Bool, ◌&&◌, List, ◌∷◌, map, ◌≡◌, eqb, get_or}
use Rattle.std.proofs.Math.Bool.{true, false, not}
use Rattle.std.proofs.Math.Path.{refl, sym, ap}
use Rattle.std.proofs.Common.{◌∙◌, add-one}
use native.Mathlib.Omega.{arith}
use Rattle.std.proofs.Math.Dec.{leb}
use Rattle.std.proofs.lemmas.Bool.{eqb-false}
use Rattle.loops.specs.Loops.{pick, all, some, listed}
use Rattle.loops.specs.Choices.{either, and-no}
use Rattle.vdisk.specs.Drive.{clusters_of}
use Rattle.state.specs.State.{max_slots, no_st}
use Rattle.state.specs.Pairs.{pair_of}
use Rattle.state.specs.Staged.{slot_of}
use Rattle.state.specs.declared.w.Pair.{Pair}
use Rattle.state.specs.declared.w.St.{St}
use Rattle.chains.specs.Chains.{value_of, is_value, is_at, place_of, linked, slot_at, cluster_at, all_held, none_repeated, staged_at, all_staged, ends_chain, is_complete}

-- the cluster that k links lead to; past the last cluster, the last link
unfoldable pub link_at : List Pair → ℕ → ℕ → ℕ
link_at ps c zero = c
link_at ps c (suc k) = value_of (pair_of ps (link_at ps c k))

-- the staging slot of the k-th cluster
abbrev pub place_at : List Pair → List St → ℕ → ℕ → ℕ
place_at ps st start k = place_of (slot_of st (link_at ps start k))

-- it has a pair and a staging slot
abbrev pub held_at : List Pair → List St → ℕ → ℕ → Bool
held_at ps st start k = is_value (pair_of ps (link_at ps start k)) && is_at (slot_of st (link_at ps start k))

-- an earlier cluster has its slot
abbrev pub repeated_at : List Pair → List St → ℕ → ℕ → Bool
repeated_at ps st start k = some (λ i. eqb (place_at ps st start i) (place_at ps st start k)) k 0

-- its slot has every needed sector
abbrev pub full_at : List Pair → List St → ℕ → ℕ → ℕ → Bool
full_at ps st start size k = staged_at (get_or st (place_at ps st start k) no_st) size k

-- the k-th cluster has a pair and a staging slot of its own, in which every needed sector is staged
unfoldable pub fits : List Pair → List St → ℕ → ℕ → ℕ → Bool
fits ps st start size k = held_at ps st start k && not (repeated_at ps st start k) && full_at ps st start size k

pub link-next : (ps : List Pair) (c k : ℕ) → link_at ps c (k + 1) ≡ value_of (pair_of ps (link_at ps c k))
unfolding link_at
link-next ps c k = rw (add-one k)

link-from : (ps : List Pair) (c k : ℕ) → link_at ps (value_of (pair_of ps c)) k ≡ link_at ps c (suc k)
unfolding link_at
link-from ps c zero = refl
link-from ps c (suc k) = ap (λ (d : ℕ). value_of (pair_of ps d)) (link-from ps c k)

pub linked-at : (ps : List Pair) (c n k : ℕ) → k < n → get_or (linked ps c n) k 0 ≡ link_at ps c k
unfolding linked link_at
linked-at ps c zero k h = absurd (omega arith)
linked-at ps c (suc n) zero h = refl
linked-at ps c (suc n) (suc k) h = linked-at ps (value_of (pair_of ps c)) n k (omega arith) ∙ link-from ps c k

linked-from : (f : ℕ → ℕ) (ps : List Pair) (c n i : ℕ) → map f (linked ps (link_at ps c i) n) ≡ listed (λ k. f (link_at ps c k)) n i
unfolding linked listed
linked-from f ps c zero i = refl
linked-from f ps c (suc n) i = rw (← link-next ps c i) (ap (λ (xs : List ℕ). f (link_at ps c i) ∷ xs) (linked-from f ps c n (i + 1)))

pub linked-map : (f : ℕ → ℕ) (ps : List Pair) (c n : ℕ) → map f (linked ps c n) ≡ listed (λ k. f (link_at ps c k)) n 0
unfolding link_at
linked-map f ps c n = linked-from f ps c n 0

-- loops over tests that say the same, and over two tests joined by "and"
module _ (p q : ℕ → Bool) where
  all-same : (n i : ℕ) → ((k : ℕ) → k < i + n → p k ≡ q k) → all p n i ≡ all q n i
  unfolding all
  all-same zero i f = refl
  all-same (suc n) i f = rw (f i (omega arith), all-same n (i + 1) (λ k h. f k (omega arith)))

  pub some-same : (n i : ℕ) → ((k : ℕ) → k < i + n → p k ≡ q k) → some p n i ≡ some q n i
  unfolding some
  some-same zero i f = refl
  some-same (suc n) i f = rw (f i (omega arith), some-same n (i + 1) (λ k h. f k (omega arith)))

  all-and : (n i : ℕ) → all (λ k. p k && q k) n i ≡ (all p n i && all q n i)
  unfolding all
  all-and zero i = refl
  all-and (suc n) i = rw (all-and n (i + 1)) (both (p i) (q i) (all p n (i + 1)) (all q n (i + 1)))
    where
      both : (a b c d : Bool) → pick (a && b) (c && d) false ≡ (pick a c false && pick b d false)
      both true true c d = refl
      both true false c d = sym (and-no c false refl)
      both false b c d = refl

and-under : (a h r s : Bool) → (a && h && r && s) ≡ (a && (h && r && s))
and-under true h r s = refl
and-under false h r s = refl

module _ (ps : List Pair) (st : List St) (start size : ℕ) where
  cluster-is : (k : ℕ) → k < clusters_of size → cluster_at ps start size k ≡ link_at ps start k
  cluster-is k h = linked-at ps start (clusters_of size) k h

  place-is : (k : ℕ) → k < clusters_of size → slot_at ps st start size k ≡ place_at ps st start k
  place-is k h = ap (λ (c : ℕ). place_of (slot_of st c)) (cluster-is k h)

  held-is : all_held ps st start size ≡ all (held_at ps st start) (clusters_of size) 0
  unfolding all_held
  held-is = all-same _ _ (clusters_of size) 0 (λ k h. ap (λ (c : ℕ). is_value (pair_of ps c) && is_at (slot_of st c)) (cluster-is k (omega arith)))

  repeated-is : none_repeated ps st start size ≡ all (λ k. not (repeated_at ps st start k)) (clusters_of size) 0
  unfolding none_repeated
  repeated-is =
      all-same _ _ (clusters_of size) 0
      (λ k h. ap not (some-same _ _ k 0
      (λ i l. rw (place-is i (omega arith), place-is k (omega arith)))))

  staged-is : all_staged ps st start size ≡ all (full_at ps st start size) (clusters_of size) 0
  unfolding all_staged
  staged-is = all-same _ _ (clusters_of size) 0 (λ k h. ap (λ (i : ℕ). staged_at (get_or st i no_st) size k) (place-is k (omega arith)))

  fits-is : all (fits ps st start size) (clusters_of size) 0 ≡ (all_held ps st start size && none_repeated ps st start size && all_staged ps st start size)
  unfolding fits
  fits-is =
      all-and (λ k. held_at ps st start k && not (repeated_at ps st start k)) (full_at ps st start size) (clusters_of size) 0
      ∙ rw (all-and (held_at ps st start) (λ k. not (repeated_at ps st start k)) (clusters_of size) 0, held-is, repeated-is, staged-is)

  ends-is : (size ≡ 0 → ⊥) → ends_chain ps start size ≡ leb 0xFFF8 (link_at ps start (clusters_of size))
  unfolding ends_chain clusters_of
  ends-is h =
      let n = clusters_of size in
      let e : n - 1 + 1 ≡ n = omega arith in
      ap (λ (c : ℕ). leb 0xFFF8 (value_of (pair_of ps c))) (cluster-is (n - 1) (omega arith))
      ∙ ap (leb 0xFFF8) (sym (rw e at (link-next ps start (n - 1))))

  -- `is_complete`, with one test for each cluster that is passed
  pub complete-is : is_complete ps st start size
      ≡ (not (eqb size 0) && leb (clusters_of size) max_slots && all (fits ps st start size) (clusters_of size) 0 && leb 0xFFF8 (link_at ps start (clusters_of size)))
  unfolding is_complete
  complete-is =
      either (eqb size 0) (λ e. rw e)
      (λ e. rw (ends-is (eqb-false size 0 e), fits-is)
      (ap (λ (b : Bool). b && leb 0xFFF8 (link_at ps start (clusters_of size)))
      (and-under (not (eqb size 0) && leb (clusters_of size) max_slots) (all_held ps st start size) (none_repeated ps st start size) (all_staged ps st start size))))
