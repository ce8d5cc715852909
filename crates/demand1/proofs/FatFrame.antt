-- What a taken FAT sector leaves.
use Rattle.std.specs.Prelude.{ℕ, ◌+◌, ◌<◌, Bool, ◌&&◌, List, ◌≡◌, set, Option, Some, None}
use Rattle.std.proofs.Math.Bool.{true, false, not, true≢false}
use Rattle.std.proofs.Math.Path.{refl}
use Rattle.std.proofs.Common.{sym, ◌∙◌, ap}
use Rattle.std.proofs.Math.Dec.{eqb}
use Rattle.std.proofs.Math.ListN.{get_or}
use borrow.Author.Tests.{eqb-true, eqb-false, eq-eqb, ne_eqb, not-true}
use Rattle.loops.specs.Loops.{pick, some, fold}
use Rattle.loops.specs.Choices.{either, pick-by, and-of, and-0, and-1}
use Rattle.loops.specs.Facts.{some-in}
use Rattle.loops.specs.Keyed.{other-stands}
use Rattle.loops.specs.Rows.{rows}
use Rattle.bits.specs.Bit.{set_bit}
use Rattle.vdisk.specs.Owner.{owner_of}
use Rattle.vdisk.specs.declared.owner.Own.TheVariants.{Dyn}
use Rattle.state.specs.State.{max_pairs, st0, pair0}
use Rattle.state.specs.Setters.{with_fat1, with_pair, with_st}
use Rattle.state.specs.Pairs.{pair_of, drop_at, set_pair}
use Rattle.state.specs.Staged.{slot_of}
use Rattle.state.proofs.LookupLaws.{pair_key, pair_idx-is, free_pair-is}
use Rattle.state.proofs.SetPairLaws.{set_pair-by, pair-by, set_pair-only, pair_of-other}
use Rattle.state.specs.declared.w.Pair.{Pair}
use Rattle.state.specs.declared.w.St.{St}
use Rattle.state.specs.declared.w.W.{W}
use Rattle.fat_sectors.specs.Fat.{FatWrite, cluster_at, value_at, changed_at, owner_at, fat_number, frees_row, freed_owner, apply_at, fat_state, free_id, fat_ids}
use Rattle.judge.specs.Classify.{SectorWrite, Outcome, fat_of, fat, owner_in}
use Rattle.demand1.specs.Changes.{is_value}
use Rattle.demand1.proofs.Turns.{fold-in, none-at}

-- The notions of Changes by what the handler reads: an entry of cluster k is changed; entry i sets its pair; cluster k's is set; it is removed.
unfoldable pub changed_in : FatWrite → ℕ → Bool
changed_in f k = some (λ i. changed_at f i && eqb (cluster_at f i) k) 256 0

unfoldable pub sets_in : FatWrite → ℕ → Bool
sets_in f i = changed_at f i && not (eqb (cluster_at f i) 1) && not (freed_owner f (owner_at f i))

unfoldable pub set_in : FatWrite → ℕ → Bool
set_in f k = some (λ i. sets_in f i && eqb (cluster_at f i) k) 256 0

unfoldable pub removed_in : FatWrite → ℕ → Bool
removed_in f k = some (λ i. sets_in f i && eqb (cluster_at f i) k && eqb (value_at f i) 0) 256 0 && is_value (pair_of f.pairs k)

-- all fields but the pairs, the staging slots and FAT[1] are w's
abbrev OnlyFat : W → W → Type 0
OnlyFat w v = v ≡ with_fat1 (with_pair (with_st w v.st) v.pair) v.fat1

only-set : (w v : W) (ps : List Pair) (ss : List St) (n : ℕ) → OnlyFat w v → OnlyFat w (with_fat1 (with_pair (with_st v ss) ps) n)
unfolding with_fat1 with_pair with_st
only-set w v ps ss n e = rw e

drop-only : (w v : W) (ps : List Pair) (f : Option ℕ) → OnlyFat w v → OnlyFat w (drop_at (with_pair v ps) f)
unfolding with_fat1 with_pair with_st drop_at
drop-only w v ps (Some k) e = only-set w v ps (set v.st k st0) v.fat1 e
drop-only w v ps None e = only-set w v ps v.st v.fat1 e

module _ (f : FatWrite) where
  -- the ways to apply an entry
  pub apply-cases : (P : W → Type 0) (i : ℕ) (v : W) → (changed_at f i ≡ false → P v)
      → (changed_at f i ≡ true → cluster_at f i ≡ 1 → P (with_fat1 v (value_at f i + 65536)))
      → (changed_at f i ≡ true → (cluster_at f i ≡ 1 → ⊥) → freed_owner f (owner_at f i) ≡ true → P v)
      → (changed_at f i ≡ true → (cluster_at f i ≡ 1 → ⊥) → freed_owner f (owner_at f i) ≡ false → P (set_pair v (cluster_at f i) (value_at f i)))
      → P (apply_at f i v)
  unfolding apply_at
  apply-cases P i v same first freed other =
      pick-by P (changed_at f i) _ v
      (λ q. pick-by P (eqb (cluster_at f i) 1) _ _ (λ z. first q (eqb-true (cluster_at f i) 1 z))
      (λ z. pick-by P (freed_owner f (owner_at f i)) v _ (freed q (eqb-false (cluster_at f i) 1 z)) (other q (eqb-false (cluster_at f i) 1 z))))
      same

  apply-by : (P : W → Type 0) (i : ℕ) (v : W) → P v
      → (changed_at f i ≡ true → cluster_at f i ≡ 1 → P (with_fat1 v (value_at f i + 65536)))
      → (changed_at f i ≡ true → P (set_pair v (cluster_at f i) (value_at f i))) → P (apply_at f i v)
  apply-by P i v h g k = apply-cases P i v (λ q. h) g (λ q z y. h) (λ q z y. k q)

module _ (w : W) (f : FatWrite) where
  only-apply : (i : ℕ) (v : W) → i < 256 → OnlyFat w v → OnlyFat w (apply_at f i v)
  unfolding with_fat1 with_pair with_st
  only-apply i v l e =
      let p : Pair = record { c = cluster_at f i; v = value_at f i } in
      apply-by f (OnlyFat w) i v e (λ q z. only-set w v v.pair v.st (value_at f i + 65536) e)
      (λ q. set_pair-by v (cluster_at f i) (value_at f i) (OnlyFat w)
      (λ j g z. drop-only w v (set v.pair j pair0) (slot_of v.st (cluster_at f i)) e)
      (λ j g h. only-set w v (set v.pair j p) v.st v.fat1 e)
      (λ j g h y. only-set w v (set v.pair j p) v.st v.fat1 e)
      e)

  -- an entry that isn't changed is no turn's
  other : (k i : ℕ) → changed_in f k ≡ false → i < 256 → changed_at f i ≡ true → cluster_at f i ≡ k → ⊥
  unfolding changed_in
  other k i e l q z =
      true≢false (sym (and-of (changed_at f i) (eqb (cluster_at f i) k) q (eq-eqb (cluster_at f i) k z))
      ∙ none-at (λ i. changed_at f i && eqb (cluster_at f i) k) 256 i e l)

  fat1-apply : changed_in f 1 ≡ false → (i : ℕ) (v : W) → i < 256 → v.fat1 ≡ w.fat1 → (apply_at f i v).fat1 ≡ w.fat1
  fat1-apply e i v l h =
      apply-by f (λ u. u.fat1 ≡ w.fat1) i v h (λ q z. absurd (other 1 i e l q z)) (λ q. (set_pair-only v (cluster_at f i) (value_at f i)).fat1 ∙ h)

  -- a pair that is set is one of an entry's that sets it
  sets-of : (i : ℕ) → changed_at f i ≡ true → (cluster_at f i ≡ 1 → ⊥) → freed_owner f (owner_at f i) ≡ false → sets_in f i ≡ true
  unfolding sets_in
  sets-of i q n o =
      let a = not (eqb (cluster_at f i) 1) in
      let b = not (freed_owner f (owner_at f i)) in
      and-of (changed_at f i && a) b (and-of (changed_at f i) a q (ap not (ne_eqb (cluster_at f i) 1 n))) (ap not o)

  pub unset : (k i : ℕ) → set_in f k ≡ false → i < 256 → sets_in f i ≡ true → cluster_at f i ≡ k → ⊥
  unfolding set_in
  unset k i e l q z =
      true≢false (sym (and-of (sets_in f i) (eqb (cluster_at f i) k) q (eq-eqb (cluster_at f i) k z))
      ∙ none-at (λ i. sets_in f i && eqb (cluster_at f i) k) 256 i e l)

  -- the ways of an entry, where the pairs and slots are concerned
  pub apply-pairs : (P : W → Type 0) (i : ℕ) (v : W) → P v → ((n : ℕ) → P (with_fat1 v n)) → (sets_in f i ≡ true → P (set_pair v (cluster_at f i) (value_at f i)))
      → P (apply_at f i v)
  apply-pairs P i v h g k = apply-cases f P i v (λ q. h) (λ q z. g (value_at f i + 65536)) (λ q z y. h) (λ q z y. k (sets-of i q z y))

  module _ (k : ℕ) (e : set_in f k ≡ false) where
    pair-apply : (i : ℕ) (v : W) → i < 256 → pair_of v.pair k ≡ pair_of w.pair k → pair_of (apply_at f i v).pair k ≡ pair_of w.pair k
    unfolding with_fat1
    pair-apply i v l h =
        apply-pairs (λ u. pair_of u.pair k ≡ pair_of w.pair k) i v h (λ n. h)
        (λ q. pair_of-other v (cluster_at f i) (value_at f i) k (λ z. unset k i e l q (sym z)) ∙ h)

  -- a pair in use stays at its place where another cluster's is set
  place-stands : (v : W) (c a n : ℕ) → ((get_or v.pair n pair0).c ≡ 0 → ⊥) → ((get_or v.pair n pair0).c ≡ c → ⊥)
      → get_or (set_pair v c a).pair n pair0 ≡ get_or v.pair n pair0
  place-stands v c a n u h =
      let p : Pair = record { c = c; v = a } in
      pair-by v c a (λ ps. get_or ps n pair0 ≡ get_or v.pair n pair0)
      (λ i e z. other-stands pair_key pair0 max_pairs v.pair i pair0 n (λ y. h (sym y ∙ (pair_idx-is v.pair c i e).0)))
      (λ i e z. other-stands pair_key pair0 max_pairs v.pair i p n (λ y. h (sym y ∙ (pair_idx-is v.pair c i e).0)))
      (λ i e z g. other-stands pair_key pair0 max_pairs v.pair i p n (λ y. u (sym y ∙ free_pair-is v.pair i g)))
      refl

  place-apply : (n : ℕ) → ((get_or w.pair n pair0).c ≡ 0 → ⊥) → set_in f (get_or w.pair n pair0).c ≡ false
      → (i : ℕ) (v : W) → i < 256 → get_or v.pair n pair0 ≡ get_or w.pair n pair0 → get_or (apply_at f i v).pair n pair0 ≡ get_or w.pair n pair0
  unfolding with_fat1
  place-apply n u e i v l h =
      apply-pairs (λ r. get_or r.pair n pair0 ≡ get_or w.pair n pair0) i v h (λ m. h)
      (λ q. place-stands v (cluster_at f i) (value_at f i) n (λ y. u (rw h at y)) (λ y. unset (get_or w.pair n pair0).c i e l q (sym (rw h at y))) ∙ h)

  -- a file that the sector frees has no entry that sets a pair
  freed-unset : (k j : ℕ) → owner_of f.starts f.sizes f.first k ≡ Dyn j → frees_row f j ≡ true → set_in f k ≡ false
  unfolding set_in sets_in freed_owner
  freed-unset k j o r =
      either (some (λ i. sets_in f i && eqb (cluster_at f i) k) 256 0)
      (λ q. some-in (λ i. sets_in f i && eqb (cluster_at f i) k) 256 0 q
      (λ i l h z. let c = eqb-true (cluster_at f i) k (and-1 (sets_in f i) (eqb (cluster_at f i) k) z) in
      let s = and-1 (changed_at f i && not (eqb (cluster_at f i) 1)) (not (freed_owner f (owner_at f i))) (and-0 (sets_in f i) (eqb (cluster_at f i) k) z) in
      let t : not (frees_row f j) ≡ true = rw (c, o) at s in
      absurd (true≢false (sym r ∙ not-true (frees_row f j) t))))
      (λ q. q)

module _ (x : SectorWrite) (w : W) (s : ℕ) where
  -- all of it but what is set
  pub record FatFrame (o : Outcome) : Type 0 where
    pub state : o.w ≡ with_fat1 (with_pair (with_st w o.w.st) o.w.pair) o.w.fat1
    pub fat1 : changed_in (fat_of x w s) 1 ≡ false → o.w.fat1 ≡ w.fat1
    pub pairs : (k : ℕ) → set_in (fat_of x w s) k ≡ false → pair_of o.w.pair k ≡ pair_of w.pair k
    pub places : (n : ℕ) → ((get_or w.pair n pair0).c ≡ 0 → ⊥) → set_in (fat_of x w s) (get_or w.pair n pair0).c ≡ false
        → get_or o.w.pair n pair0 ≡ get_or w.pair n pair0
    pub freed : (k j : ℕ) → owner_in x w k ≡ Dyn j → frees_row (fat_of x w s) j ≡ true → pair_of o.w.pair k ≡ pair_of w.pair k
    pub ids : o.ids ≡ rows (λ j id. pick (frees_row (fat_of x w s) j) (set_bit id 13) id) x.ids

  pub fat-frame : (fat x w s).number ≡ 0 → FatFrame (fat x w s)
  unfolding fat fat_state fat_ids free_id with_fat1 with_pair with_st
  fat-frame e =
      let f = fat_of x w s in
      let q = eq-eqb (fat_number f) 0 e in
      let stay : (k : ℕ) → set_in f k ≡ false → pair_of (fold (apply_at f) 256 0 w).pair k ≡ pair_of w.pair k =
      λ k n. fold-in (λ u. pair_of u.pair k ≡ pair_of w.pair k) (apply_at f) 256 (pair-apply w f k n) w refl in
      record {
        state = rw q (fold-in (OnlyFat w) (apply_at f) 256 (only-apply w f) w refl);
        fat1 = λ n. rw q (fold-in (λ u. u.fat1 ≡ w.fat1) (apply_at f) 256 (fat1-apply w f n) w refl);
        pairs = λ k n. rw q (stay k n);
        places = λ m u n. rw q (fold-in (λ v. get_or v.pair m pair0 ≡ get_or w.pair m pair0) (apply_at f) 256 (place-apply w f m u n) w refl);
        freed = λ k j o r. rw q (stay k (freed-unset w f k j o r));
        ids = rw q;
      }

  -- a taken FAT sector opens the session
  pub fat-opens : (fat x w s).number ≡ 0 → (fat x w s).changed ≡ true
  unfolding fat
  fat-opens e = eq-eqb (fat_number (fat_of x w s)) 0 e
