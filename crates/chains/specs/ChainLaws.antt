-- What a complete chain has: its number of clusters, and a staging slot for each, no two alike.
use Rattle.std.specs.Prelude.{ℕ, ◌<◌, ◌≤◌, Bool, true, false, ◌&&◌, List, ◌≡◌, eqb, leb, ltb, get_or, Option, Some, None}
use Rattle.std.proofs.Math.Bool.{not}
use Rattle.std.proofs.Common.{true≢false, sym, ◌∙◌}
use Rattle.std.proofs.Math.Path.{refl}
use native.Mathlib.Omega.{arith}
use borrow.Author.Tests.{eqb-false, eq-eqb, leb-true, ltb-true, ltb-false, not-true}
use Rattle.loops.specs.Loops.{pick, all}
use Rattle.loops.specs.Choices.{either, and-0, and-1}
use Rattle.loops.specs.Facts.{all-at, some-at}
use Rattle.vdisk.specs.Drive.{clusters_of}
use Rattle.state.specs.State.{max_slots, no_st}
use Rattle.state.specs.Pairs.{pair_of}
use Rattle.state.specs.PairLaws.{slot_of-lt}
use Rattle.state.specs.Staged.{slot_of}
use Rattle.state.specs.declared.w.Pair.{Pair}
use Rattle.state.specs.declared.w.St.{St}
use Rattle.chains.specs.Chains.{is_value, is_at, place_of, cluster_at, staged_at, is_complete, no_chain, complete_of}
use Rattle.chains.specs.Walk.{link_at, place_at, held_at, repeated_at, full_at, fits, linked-at, linked-map, complete-is}
use Rattle.chains.specs.WalkLaws.{slots_to, slots-read}
use Rattle.chains.specs.declared.Chain.{Chain}

at-place : (f : Option ℕ) → is_at f ≡ true → f ≡ Some (place_of f)
unfolding is_at place_of
at-place (Some i) e = refl
at-place None e = absurd (true≢false (sym e))

found-pick : (b : Bool) (x : Chain) → x.found ≡ true → (pick b x no_chain).found ≡ b
found-pick true x e = e
found-pick false x e = refl

module _ (ps : List Pair) (st : List St) (start size : ℕ) where
  pub complete-found : (complete_of ps st start size).found ≡ is_complete ps st start size
  unfolding complete_of
  complete-found = found-pick (is_complete ps st start size) _ refl

  pub none-found : (complete_of ps st start size).found ≡ false → complete_of ps st start size ≡ no_chain
  unfolding complete_of
  none-found e = rw (sym complete-found ∙ e)

module _ (ps : List Pair) (st : List St) (start size : ℕ) (e : (complete_of ps st start size).found ≡ true) where
  is-complete : is_complete ps st start size ≡ true
  is-complete = sym (complete-found ps st start size) ∙ e

  pub chain-n : (complete_of ps st start size).n ≡ clusters_of size
  unfolding complete_of
  chain-n = rw is-complete

  chain-slots : (complete_of ps st start size).slots ≡ slots_to ps st start (clusters_of size)
  unfolding complete_of
  chain-slots = rw (is-complete, linked-map (λ c. place_of (slot_of st c)) ps start (clusters_of size))

  numbers : (not (eqb size 0) && leb (clusters_of size) max_slots && all (fits ps st start size) (clusters_of size) 0) ≡ true
  numbers = and-0 _ (leb 0xFFF8 (link_at ps start (clusters_of size))) (sym (complete-is ps st start size) ∙ is-complete)

  pub chain-some : 1 ≤ (complete_of ps st start size).n
  unfolding clusters_of
  chain-some =
      let z = eqb-false size 0 (not-true (eqb size 0) (and-0 _ (leb (clusters_of size) max_slots) (and-0 _ (all (fits ps st start size) (clusters_of size) 0) numbers))) in
      let n = chain-n in
      omega arith

  pub chain-le : (complete_of ps st start size).n ≤ max_slots
  chain-le =
      rw chain-n (leb-true (clusters_of size) max_slots (and-1 (not (eqb size 0)) _ (and-0 _ (all (fits ps st start size) (clusters_of size) 0) numbers)))

  module _ (k : ℕ) (h : k < (complete_of ps st start size).n) where
    below : k < clusters_of size
    below = rw chain-n at h

    fits-here : fits ps st start size k ≡ true
    fits-here = all-at (fits ps st start size) (clusters_of size) 0 k (and-1 (not (eqb size 0) && leb (clusters_of size) max_slots) _ numbers) (omega arith) (omega (arith, below))

    pub slot-place : get_or (complete_of ps st start size).slots k 0 ≡ place_at ps st start k
    slot-place = rw chain-slots (slots-read ps st start (clusters_of size) k below)

    own : (held_at ps st start k && not (repeated_at ps st start k)) ≡ true
    unfolding fits
    own = and-0 _ (full_at ps st start size k) fits-here

    -- the cluster's slot, in which every needed sector is staged
    pub slot-found : slot_of st (cluster_at ps start size k) ≡ Some (get_or (complete_of ps st start size).slots k 0)
    slot-found =
        let c = link_at ps start k in
        rw (linked-at ps start (clusters_of size) k below, slot-place)
        (at-place (slot_of st c) (and-1 (is_value (pair_of ps c)) _ (and-0 _ (not (repeated_at ps st start k)) own)))

    pub slot-lt : get_or (complete_of ps st start size).slots k 0 < max_slots
    slot-lt = slot_of-lt st (cluster_at ps start size k) _ slot-found

    pub slot-staged : staged_at (get_or st (get_or (complete_of ps st start size).slots k 0) no_st) size k ≡ true
    unfolding fits
    slot-staged = rw slot-place (and-1 (held_at ps st start k && not (repeated_at ps st start k)) _ fits-here)

    earlier : (i : ℕ) → i < k → place_at ps st start i ≡ place_at ps st start k → ⊥
    earlier i l q =
        true≢false
        (sym (some-at (λ j. eqb (place_at ps st start j) (place_at ps st start k)) k 0 i (omega arith) (omega arith) (eq-eqb (place_at ps st start i) (place_at ps st start k) q))
        ∙ not-true (repeated_at ps st start k) (and-1 (held_at ps st start k) _ own))

  -- no two clusters have the same slot
  pub slots-apart : (i k : ℕ) → i < (complete_of ps st start size).n → k < (complete_of ps st start size).n
      → get_or (complete_of ps st start size).slots i 0 ≡ get_or (complete_of ps st start size).slots k 0 → i ≡ k
  slots-apart i k h g q =
      let p : place_at ps st start i ≡ place_at ps st start k = sym (slot-place i h) ∙ q ∙ slot-place k g in
      either (ltb i k) (λ l. absurd (earlier k g i (ltb-true i k l) p))
      (λ l. either (ltb k i) (λ m. absurd (earlier i h k (ltb-true k i m) (sym p)))
      (λ m. omega (arith, ltb-false i k l, ltb-false k i m)))
