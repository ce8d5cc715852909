-- A taken FAT sector sets the pairs of its changed entries as written.
use Rattle.std.specs.Prelude.{ℕ, ◌+◌, ◌≤◌, ◌<◌, Bool, true, false, ◌&&◌, List, ltb, eqb, get_or, Option, Some, None}
use Rattle.std.proofs.Math.Bool.{not}
use Rattle.std.proofs.Common.{true≢false, sym, ◌∙◌}
use Rattle.std.proofs.Math.Path.{◌≡◌, refl, ap}
use native.Mathlib.Omega.{arith}
use Rattle.std.proofs.Math.ListN.{length}
use borrow.Author.Tests.{eqb-true, eqb-false, eq-eqb, ne_eqb, ltb-true, ltb-false, not-true, not-false}
use Rattle.loops.specs.Loops.{pick, first, count, fold}
use Rattle.loops.specs.Choices.{either, picked, and-0, and-1, and-of}
use Rattle.loops.specs.Facts.{some-at, first-at, first-below}
use Rattle.loops.specs.Found.{found-by}
use Rattle.loops.specs.Marks.{is_at, picked_by}
use Rattle.loops.specs.Rows.{rows-same}
use Rattle.bits.specs.Bit.{set_bit}
use Rattle.vdisk.specs.declared.owner.Own.{Own}
use Rattle.vdisk.specs.declared.owner.Own.TheVariants.{Reserved, Fixed, Dyn, Free}
use Rattle.state.specs.State.{max_pairs, pair0, no_st}
use Rattle.state.specs.Setters.{with_fat1}
use Rattle.state.specs.Pairs.{pair_idx, pair_at, pair_of, free_pairs}
use Rattle.state.proofs.LookupLaws.{NoTwice, none-pair_of}
use Rattle.state.proofs.SetPairLaws.{pairs-length, pair_of-other, pair_of-same, pair_of-gone, no_twice-set_pair}
use Rattle.state.proofs.CountLaws.{free_pairs-removed, free_pairs-changed, free_pairs-added, set_pair-absent}
use Rattle.state.specs.declared.w.Pair.{Pair}
use Rattle.state.specs.declared.w.W.{W}
use Rattle.clusters.specs.Clusters.{is_nothing, is_live, host_own}
use Rattle.fat_sectors.specs.Fat.{FatWrite, cluster_at, value_at, changed_at, owner_at, own_number, entry_number, refused_at, needs_pair, fat_number, freed_own, freed_by, frees_row, freed_owner, apply_at, fat_state}
use Rattle.judge.specs.Classify.{SectorWrite, fat_of, fat}
use Rattle.demand1.specs.Sound.{Sound}
use Rattle.demand1.specs.Changes.{frees_file, pair_as, FatOnly}
use Rattle.demand1.proofs.Room.{fold-does}
use Rattle.demand1.proofs.FatFrame.{sets_in, apply-cases, fat-frame}
use Rattle.demand1.proofs.FatOwn.{changed-same, value-same, differs-same, frees-same, sets-same, set-same, removed-same}
use Rattle.demand1.proofs.FatSlots.{slot-stays, slot-dropped, fat1-sets}

-- a cluster has a pair or none
unfoldable is_none : Option ℕ → Bool
is_none (Some u) = false
is_none None = true

pair-or : {R : Type 0} (p : Option ℕ) → ((u : ℕ) → p ≡ Some u → R) → (p ≡ None → R) → R
pair-or (Some u) g h = g u refl
pair-or None g h = h refl

none-pair : (ps : List Pair) (c : ℕ) → is_nothing (pair_idx ps c) ≡ is_none (pair_of ps c)
unfolding is_nothing is_none pair_of pair_at
none-pair ps c = found-by (pair_idx ps c) (λ i e. rw e) (λ e. rw e)

module _ (w : W) (f : FatWrite) (passes : (i : ℕ) → i < 256 → entry_number f i ≡ 0) where
  abbrev valued : ℕ → Bool
  valued j = changed_at f j && host_own f.ids f.pairs (cluster_at f j) (owner_at f j) && not (eqb (value_at f j) 0)

  abbrev needs : W → ℕ → Bool
  needs v j = valued j && is_nothing (pair_idx v.pair (cluster_at f j))

  abbrev Before : ℕ → W → Type 0
  Before i v = (length v.pair ≡ max_pairs) × NoTwice v.pair

  abbrev Sets : ℕ → W → Type 0
  Sets j v = sets_in f j ≡ true → pair_of v.pair (cluster_at f j) ≡ pair_as (value_at f j)

  -- a changed entry that passes is not FAT[0], and where its file isn't freed by the sector it is a host cluster's
  not-first : (i : ℕ) → i < 256 → changed_at f i ≡ true → cluster_at f i ≡ 0 → ⊥
  unfolding entry_number
  not-first i l q z =
      let e : ◌≡◌ {A = ℕ} 4 0 = rw (q, eq-eqb (cluster_at f i) 0 z) at (passes i l) in
      omega arith

  own-number : (i : ℕ) → i < 256 → changed_at f i ≡ true → (cluster_at f i ≡ 1 → ⊥) → own_number f i (owner_at f i) ≡ 0
  unfolding entry_number
  own-number i l q n =
      rw (q, ne_eqb (cluster_at f i) 0 (not-first i l q), ne_eqb (cluster_at f i) 1 n) at (passes i l)

  live-frees : (i j : ℕ) → i < 256 → changed_at f i ≡ true → owner_at f i ≡ Dyn j → is_live f.ids f.pairs j (cluster_at f i) ≡ true → frees_row f j ≡ true
  unfolding frees_row picked_by freed_by freed_own is_at
  live-frees i j l q o e =
      some-at (λ i. is_at j (freed_by f i)) 256 0 i (omega arith) (omega arith) (rw (q, o, e) (eq-eqb j j refl))

  host-own : (i : ℕ) → i < 256 → changed_at f i ≡ true → (o : Own) → owner_at f i ≡ o → own_number f i o ≡ 0 → freed_owner f o ≡ false
      → host_own f.ids f.pairs (cluster_at f i) o ≡ true
  unfolding own_number freed_owner host_own
  host-own i l q Reserved = λ g (e : ◌≡◌ {A = ℕ} 5 0) h. absurd (omega arith)
  host-own i l q Fixed = λ g (e : ◌≡◌ {A = ℕ} 5 0) h. absurd (omega arith)
  host-own i l q (Dyn j) =
      λ g e h. either (is_live f.ids f.pairs j (cluster_at f i)) (λ t. absurd (true≢false (sym (live-frees i j l q g t) ∙ h))) (λ t. ap not t)
  host-own i l q Free = λ g e h. refl

  needs-it : (i : ℕ) (v : W) → i < 256 → changed_at f i ≡ true → (cluster_at f i ≡ 1 → ⊥) → freed_owner f (owner_at f i) ≡ false
      → (value_at f i ≡ 0 → ⊥) → pair_of v.pair (cluster_at f i) ≡ None → needs v i ≡ true
  unfolding is_nothing
  needs-it i v l q n h z p =
      let o = host_own f.ids f.pairs (cluster_at f i) (owner_at f i) in
      and-of (valued i) (is_nothing (pair_idx v.pair (cluster_at f i)))
      (and-of (changed_at f i && o) (not (eqb (value_at f i) 0))
      (and-of (changed_at f i) o q (host-own i l q (owner_at f i) refl (own-number i l q n) h)) (ap not (ne_eqb (value_at f i) 0 z)))
      (rw (none-pair_of v.pair (cluster_at f i) p))

  -- an entry leaves every other's
  other-pair : (i j : ℕ) (v : W) → (i ≡ j → ⊥) → pair_of (apply_at f i v).pair (cluster_at f j) ≡ pair_of v.pair (cluster_at f j)
  unfolding with_fat1
  other-pair i j v n =
      apply-cases f (λ u. pair_of u.pair (cluster_at f j) ≡ pair_of v.pair (cluster_at f j)) i v (λ q. refl) (λ q z. refl) (λ q z y. refl)
      (λ q z y. pair_of-other v (cluster_at f i) (value_at f i) (cluster_at f j) (λ e. n (omega arith)))

  keep-before : (i : ℕ) (v : W) → i < 256 → Before i v → Before (i + 1) (apply_at f i v)
  unfolding with_fat1
  keep-before i v l h =
      let c = cluster_at f i in
      let a = value_at f i in (
        apply-cases f (λ u. length u.pair ≡ max_pairs) i v (λ q. h.0) (λ q z. h.0) (λ q z y. h.0) (λ q z y. pairs-length v c a ∙ h.0),
        apply-cases f (λ u. NoTwice u.pair) i v (λ q. h.1) (λ q z. h.1) (λ q z y. h.1) (λ q z y. no_twice-set_pair v c a h.1),
      )

  does : (i : ℕ) (v : W) → i < 256 → Before i v → (needs v i ≡ true → free_pairs v.pair ≡ 0 → ⊥) → Sets i (apply_at f i v)
  unfolding with_fat1 pair_as sets_in
  does i v l h some =
      let b = not (eqb (cluster_at f i) 1) in
      let g = not (freed_owner f (owner_at f i)) in
      apply-cases f (Sets i) i v (λ q k. absurd (true≢false (sym (and-0 (changed_at f i) b (and-0 (changed_at f i && b) g k)) ∙ q)))
      (λ q z k. absurd (true≢false (sym (eq-eqb (cluster_at f i) 1 z) ∙ not-true (eqb (cluster_at f i) 1) (and-1 (changed_at f i) b (and-0 (changed_at f i && b) g k)))))
      (λ q n z k. absurd (true≢false (sym z ∙ not-true (freed_owner f (owner_at f i)) (and-1 (changed_at f i && b) g k))))
      (λ q n o k. either (eqb (value_at f i) 0)
      (λ e. rw e (pair_of-gone v (cluster_at f i) (value_at f i) h.1 (eqb-true (value_at f i) 0 e)))
      (λ e. let z = eqb-false (value_at f i) 0 e in
      rw e (pair_of-same v (cluster_at f i) (value_at f i) h.0 (not-first i l q) z (λ p. some (needs-it i v l q n o z p)))))

  stays : (i j : ℕ) (v : W) → (i ≡ j → ⊥) → Sets j v → Sets j (apply_at f i v)
  stays i j v n d q = other-pair i j v n ∙ d q

  other-needs : (i j : ℕ) (v : W) → (i ≡ j → ⊥) → needs (apply_at f i v) j ≡ needs v j
  other-needs i j v n =
      ap (λ (b : Bool). valued j && b)
      (none-pair (apply_at f i v).pair (cluster_at f j) ∙ ap is_none (other-pair i j v n) ∙ sym (none-pair v.pair (cluster_at f j)))

  has-room : (i : ℕ) (v : W) → i < 256 → Before i v → (needs v i ≡ true → free_pairs v.pair ≡ 0 → ⊥)
      → free_pairs v.pair ≤ free_pairs (apply_at f i v).pair + pick (needs v i) 1 0
  unfolding with_fat1
  has-room i v l h some =
      let c = cluster_at f i in
      let a = value_at f i in
      apply-cases f (λ u. free_pairs v.pair ≤ free_pairs u.pair + pick (needs v i) 1 0) i v
      (λ q. omega arith) (λ q z. omega arith) (λ q z y. omega arith)
      (λ q n o. either (eqb a 0)
      (λ e. let z = eqb-true a 0 e in
      pair-or (pair_of v.pair c)
      (λ u p. let r = free_pairs-removed v c a u p z in omega arith)
      (λ p. rw (set_pair-absent v c a p z) (omega arith)))
      (λ e. let z = eqb-false a 0 e in
      pair-or (pair_of v.pair c)
      (λ u p. let r = free_pairs-changed v c a u p z in omega arith)
      (λ p. let t = needs-it i v l q n o z p in
      let r = free_pairs-added v c a p h.0 (not-first i l q) z (some t) in
      rw t (omega arith))))

module _ (x : SectorWrite) (w : W) (s : ℕ) (taken : (fat x w s).number ≡ 0) where
  -- no entry is refused, and the places are there
  passed : {R : Type 0} → (ltb (first (refused_at (fat_of x w s)) 256 0) 256 ≡ false → count (needs_pair (fat_of x w s)) 256 0 ≤ free_pairs w.pair → R) → R
  unfolding fat fat_number
  passed f =
      let g = fat_of x w s in
      let i = first (refused_at g) 256 0 in
      picked (ltb i 256) (entry_number g i) _ 0 taken
      (λ q n. absurd (true≢false (sym (first-at (refused_at g) 256 0 (ltb-true i 256 q)) ∙ ap not (eq-eqb (entry_number g i) 0 n))))
      (λ q n. picked (ltb (free_pairs w.pair) (count (needs_pair g) 256 0)) 14 0 0 n (λ t z. absurd (omega arith))
      (λ t z. f q (ltb-false (free_pairs w.pair) (count (needs_pair g) 256 0) t)))

  all-pass : (i : ℕ) → i < 256 → entry_number (fat_of x w s) i ≡ 0
  all-pass i l =
      let g = fat_of x w s in
      passed (λ q n. eqb-true (entry_number g i) 0 (not-false (eqb (entry_number g i) 0)
      (first-below (refused_at g) 256 0 i (omega arith) (let z = ltb-false (first (refused_at g) 256 0) 256 q in omega arith))))

  fits : count (needs w (fat_of x w s) all-pass w) 256 0 ≤ free_pairs w.pair
  unfolding needs_pair
  fits = passed (λ q n. n)

  sets-as : Sound w → (i : ℕ) → i < 256 → sets_in (fat_of x w s) i ≡ true
      → pair_of (fold (apply_at (fat_of x w s)) 256 0 w).pair (cluster_at (fat_of x w s) i) ≡ pair_as (value_at (fat_of x w s) i)
  sets-as h i l q =
      let f = fat_of x w s in
      let a = all-pass in
      fold-does (apply_at f) (needs w f a) (λ v. free_pairs v.pair) (Before w f a) (Sets w f a) 256 (keep-before w f a) (does w f a) (stays w f a)
      (other-needs w f a) (has-room w f a) 256 0 w refl (h.pairs, h.one-pair) fits i (omega arith) l q

  pub fat-only : FatOnly x w s (fat x w s)
  unfolding fat fat_state
  fat-only =
      let f = fat_of x w s in
      let q = eq-eqb (fat_number f) 0 taken in
      let r = fat-frame x w s taken in
      record {
        state = r.state;
        fat1-set = λ i l c z. rw q (fat1-sets w f i l (sym (differs-same x w s i) ∙ c) z ∙ ap (λ (v : ℕ). v + 65536) (value-same x w s i));
        fat1 = λ e. r.fat1 (sym (changed-same x w s 1) ∙ e);
        pair-set = λ h i l c. rw q (sets-as h i l (sym (sets-same x w s i) ∙ c) ∙ ap pair_as (value-same x w s i));
        pairs = λ k e. r.pairs k (sym (set-same x w s k) ∙ e);
        places = λ n u e. r.places n u (sym (set-same x w s (get_or w.pair n pair0).c) ∙ e);
        freed = λ k j o e. r.freed k j o (frees-same x w s j ∙ e);
        slot-free = λ h n l e. rw q (slot-dropped w f refl n h l (not-first w f all-pass) (sym (removed-same x w s (get_or w.st n no_st).c) ∙ e));
        slots = λ n e. rw q (slot-stays w f refl n (sym (removed-same x w s (get_or w.st n no_st).c) ∙ e));
        ids = r.ids ∙ rows-same (λ j id. pick (frees_row f j) (set_bit id 13) id) (λ j id. pick (frees_file x w s j) (set_bit id 13) id) x.ids (λ j id h. rw (frees-same x w s j));
        area = refl;
      }
