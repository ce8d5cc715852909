-- What a taken FAT sector does to the staging slots, and to FAT[1].
use Rattle.std.specs.Prelude.{ℕ, ◌+◌, ◌≤◌, ◌<◌, Bool, false, ◌&&◌, length, Option, Some, None}
use Rattle.std.proofs.Math.Bool.{true, not}
use Rattle.std.proofs.Common.{true≢false, ◌∙◌, arith, get_or-set_same}
use Rattle.std.proofs.Math.Path.{◌≡◌, refl, sym, ap}
use Rattle.std.proofs.Math.Dec.{eqb}
use Rattle.std.proofs.Math.ListN.{get_or}
use borrow.Author.Tests.{eqb-true, eqb-false, eq-eqb, not-true}
use Rattle.loops.specs.Loops.{some, fold}
use Rattle.loops.specs.Choices.{either, and-of, and-0, and-1}
use Rattle.loops.specs.Facts.{some-in, some-at}
use Rattle.loops.specs.Keyed.{used-only}
use Rattle.state.specs.State.{max_slots, no_st, st0}
use Rattle.state.specs.Setters.{with_fat1, with_pair, with_st}
use Rattle.state.specs.Pairs.{pair_of, drop_at, set_pair}
use Rattle.state.specs.Staged.{is_slot, slot_of}
use Rattle.state.proofs.LookupLaws.{st_key, NoSlotTwice, none-pair_of, some-pair_of, pair_idx-is}
use Rattle.state.proofs.SetPairLaws.{set_pair-removed, set_pair-none, set_pair-st, set_pair-only, slots-length, pair_of-other, slot-stands, no_slot_twice-set_pair}
use Rattle.state.specs.declared.w.W.{W}
use Rattle.fat_sectors.specs.Fat.{FatWrite, cluster_at, value_at, changed_at, owner_at, freed_owner, apply_at}
use Rattle.demand1.specs.Sound.{Sound}
use Rattle.demand1.specs.Changes.{is_value}
use Rattle.demand1.proofs.Turns.{fold-on, fold-at}
use Rattle.demand1.proofs.FatFrame.{sets_in, removed_in, apply-cases, apply-pairs}

-- a cluster has a pair or none
value-or : {R : Type 0} (p : Option ℕ) → ((u : ℕ) → p ≡ Some u → R) → (is_value p ≡ false → p ≡ None → R) → R
unfolding is_value
value-or (Some u) g h = g u refl
value-or None g h = h refl refl

module _ (w : W) (f : FatWrite) where
  abbrev removes : ℕ → ℕ → Bool
  removes k i = sets_in f i && eqb (cluster_at f i) k && eqb (value_at f i) 0

  -- where cluster k's pair isn't removed, an entry of it that sets 0 finds no pair
  not-removed : (k i : ℕ) → removed_in f k ≡ false → i < 256 → sets_in f i ≡ true → cluster_at f i ≡ k → value_at f i ≡ 0 → pair_of f.pairs k ≡ None
  unfolding removed_in is_value
  not-removed k i e l q c z =
      let a : removes k i ≡ true = and-of (sets_in f i && eqb (cluster_at f i) k) (eqb (value_at f i) 0)
      (and-of (sets_in f i) (eqb (cluster_at f i) k) q (eq-eqb (cluster_at f i) k c)) (eq-eqb (value_at f i) 0 z) in
      let b = some-at (removes k) 256 0 i (omega arith) (omega arith) a in
      value-or (pair_of f.pairs k)
      (λ u p. absurd (true≢false (sym (and-of (some (removes k) 256 0) (is_value (pair_of f.pairs k)) b (rw p)) ∙ e)))
      (λ y p. p)

  module _ (same : f.pairs ≡ w.pair) (n : ℕ) where
    abbrev cluster : ℕ
    cluster = (get_or w.st n no_st).c

    -- slot n stays while its cluster's pair is as it was
    abbrev Stays : ℕ → W → Type 0
    Stays i v = (get_or v.st n no_st ≡ get_or w.st n no_st) × ((j : ℕ) → i ≤ j → cluster_at f j ≡ cluster → pair_of v.pair cluster ≡ pair_of w.pair cluster)

    stay-pair : (i : ℕ) (v : W) → sets_in f i ≡ true → (j : ℕ) → i + 1 ≤ j → cluster_at f j ≡ cluster
        → pair_of (set_pair v (cluster_at f i) (value_at f i)).pair cluster ≡ pair_of v.pair cluster
    stay-pair i v q j l z = pair_of-other v (cluster_at f i) (value_at f i) cluster (λ y. let e : cluster_at f i ≡ cluster_at f j = sym y ∙ sym z in omega arith)

    stay-slot : removed_in f cluster ≡ false → (i : ℕ) (v : W) → i < 256 → Stays i v → sets_in f i ≡ true
        → get_or (set_pair v (cluster_at f i) (value_at f i)).st n no_st ≡ get_or w.st n no_st
    stay-slot e i v l h q =
        let c = cluster_at f i in
        let a = value_at f i in
        either (eqb c cluster)
        (λ y. let z = eqb-true c cluster y in
        either (eqb a 0)
        (λ t. let p : pair_of v.pair c ≡ None = rw z (h.1 i (omega arith) z ∙ (rw same at (not-removed cluster i e l q z (eqb-true a 0 t)))) in
        rw (set_pair-none v c a (none-pair_of v.pair c p) (eqb-true a 0 t)) h.0)
        (λ t. rw (set_pair-st v c a (eqb-false a 0 t)) h.0))
        (λ y. slot-stands v c a n (λ z. eqb-false c cluster y (sym z ∙ ap st_key h.0)) ∙ h.0)

    stays-apply : removed_in f cluster ≡ false → (i : ℕ) (v : W) → i < 256 → Stays i v → Stays (i + 1) (apply_at f i v)
    unfolding with_fat1
    stays-apply e i v l h =
        apply-pairs w f (Stays (i + 1)) i v (h.0, λ j r z. h.1 j (omega arith) z) (λ m. (h.0, λ j r z. h.1 j (omega arith) z))
        (λ q. (stay-slot e i v l h q, λ j r z. stay-pair i v q j r z ∙ h.1 j (omega arith) z))

    pub slot-stays : removed_in f cluster ≡ false → get_or (fold (apply_at f) 256 0 w).st n no_st ≡ get_or w.st n no_st
    slot-stays e = (fold-on Stays (apply_at f) 256 (stays-apply e) 256 0 w (omega arith) (refl, λ j l z. refl)).0

    -- slot n is dropped by the entry that removes its cluster's pair
    abbrev Ready : W → Type 0
    Ready v = (get_or v.st n no_st ≡ get_or w.st n no_st) × (pair_of v.pair cluster ≡ pair_of w.pair cluster) × NoSlotTwice v.st × (length v.st ≡ max_slots)

    ready-apply : (at i : ℕ) → cluster_at f at ≡ cluster → (i ≡ at → ⊥) → (v : W) → Ready v → Ready (apply_at f i v)
    unfolding with_fat1
    ready-apply at i z d v h =
        let c = cluster_at f i in
        let a = value_at f i in
        let apart : c ≡ cluster → ⊥ = λ y. d (let e : cluster_at f i ≡ cluster_at f at = y ∙ sym z in omega arith) in
        apply-pairs w f Ready i v h (λ m. h)
        (λ q. (
          slot-stands v c a n (λ y. apart (sym y ∙ ap st_key h.0)) ∙ h.0,
          pair_of-other v c a cluster (λ y. apart (sym y)) ∙ h.1,
          no_slot_twice-set_pair v c a h.2,
          slots-length v c a ∙ h.3,
        ))

    drops : (at : ℕ) → n < max_slots → sets_in f at ≡ true → cluster_at f at ≡ cluster → value_at f at ≡ 0 → (u : ℕ) → pair_of w.pair cluster ≡ Some u
        → (v : W) → Ready v → get_or (apply_at f at v).st n no_st ≡ st0
    unfolding apply_at sets_in slot_of is_slot drop_at with_pair with_st
    drops at l q z e u p v h =
        let c = cluster_at f at in
        let a = value_at f at in
        let b = not (eqb c 1) in
        let g = not (freed_owner f (owner_at f at)) in
        let q0 = and-0 (changed_at f at && b) g q in
        let used : c ≡ 0 → ⊥ = λ y. some-pair_of w.pair cluster u p (λ i r t. (pair_idx-is w.pair cluster i r).1 (sym z ∙ y)) in
        let found : slot_of v.st c ≡ Some n = used-only st_key no_st max_slots v.st h.2 c n l (ap st_key h.0 ∙ sym z) used in
        rw (and-0 (changed_at f at) b q0, not-true (eqb c 1) (and-1 (changed_at f at) b q0), not-true (freed_owner f (owner_at f at)) (and-1 (changed_at f at && b) g q))
        (some-pair_of v.pair c u (rw z (h.1 ∙ p))
        (λ i r t. rw (set_pair-removed v c a i r e, found) (get_or-set_same v.st n st0 no_st (rw h.3 l))))

    stays-free : (at i : ℕ) → cluster_at f at ≡ cluster → i < 256 → (changed_at f i ≡ true → cluster_at f i ≡ 0 → ⊥) → (v : W)
        → get_or v.st n no_st ≡ st0 → get_or (apply_at f i v).st n no_st ≡ st0
    unfolding with_fat1
    stays-free at i z l used v h =
        apply-cases f (λ u. get_or u.st n no_st ≡ st0) i v (λ q. h) (λ q y. h) (λ q y o. h)
        (λ q y o. slot-stands v (cluster_at f i) (value_at f i) n (λ e. used q (sym e ∙ ap st_key h)) ∙ h)

    pub slot-dropped : Sound w → n < max_slots → ((i : ℕ) → i < 256 → changed_at f i ≡ true → cluster_at f i ≡ 0 → ⊥) → removed_in f cluster ≡ true
        → get_or (fold (apply_at f) 256 0 w).st n no_st ≡ st0
    unfolding removed_in is_value
    slot-dropped h l used e =
        some-in (removes cluster) 256 0 (and-0 (some (removes cluster) 256 0) (is_value (pair_of f.pairs cluster)) e)
        (λ at a b q. let q1 = and-0 (sets_in f at && eqb (cluster_at f at) cluster) (eqb (value_at f at) 0) q in
        let z = eqb-true (cluster_at f at) cluster (and-1 (sets_in f at) (eqb (cluster_at f at) cluster) q1) in
        value-or (pair_of f.pairs cluster)
        (λ u p. fold-at (apply_at f) 256 at Ready (λ v. get_or v.st n no_st ≡ st0)
        (λ i v k d r. ready-apply at i z d v r)
        (λ v r. drops at l (and-0 (sets_in f at) (eqb (cluster_at f at) cluster) q1) z (eqb-true (value_at f at) 0 (and-1 (sets_in f at && eqb (cluster_at f at) cluster) (eqb (value_at f at) 0) q)) u
        (rw same at p) v r)
        (λ i v k d r. stays-free at i z k (used i k) v r) (omega arith) w (refl, refl, h.one-slot, h.slots))
        (λ y p. absurd (true≢false (sym (and-1 (some (removes cluster) 256 0) (is_value (pair_of f.pairs cluster)) e) ∙ y))))

  -- FAT[1] is as its entry was written
  fat1-stays : (at i : ℕ) → cluster_at f at ≡ 1 → (i ≡ at → ⊥) → (v : W) (m : ℕ) → v.fat1 ≡ m → (apply_at f i v).fat1 ≡ m
  fat1-stays at i z d v m h =
      apply-cases f (λ u. u.fat1 ≡ m) i v (λ q. h) (λ q y. absurd (d (let e : cluster_at f i ≡ cluster_at f at = y ∙ sym z in omega arith))) (λ q y o. h)
      (λ q y o. (set_pair-only v (cluster_at f i) (value_at f i)).fat1 ∙ h)

  pub fat1-sets : (at : ℕ) → at < 256 → changed_at f at ≡ true → cluster_at f at ≡ 1 → (fold (apply_at f) 256 0 w).fat1 ≡ value_at f at + 65536
  unfolding with_fat1
  fat1-sets at l q z =
      fold-at (apply_at f) 256 at (λ v. ◌≡◌ {A = ℕ} 0 0) (λ v. v.fat1 ≡ value_at f at + 65536) (λ i v k d r. refl)
      (λ v r. apply-cases f (λ u. u.fat1 ≡ value_at f at + 65536) at v (λ e. absurd (true≢false (sym q ∙ e))) (λ e y. refl) (λ e y o. absurd (y z)) (λ e y o. absurd (y z)))
      (λ i v k d r. fat1-stays at i z d v (value_at f at + 65536) r) l w refl
