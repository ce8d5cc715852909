-- How many places and slots are free after one is set, and after a pair is set.
use Rattle.std.specs.Prelude.{ℕ, ◌+◌, ◌<◌, List, ◌≡◌, length, get_or, set, Some, None}
use Rattle.std.proofs.Math.Path.{refl, sym}
use Rattle.std.proofs.Common.{◌∙◌, ap, ne_eqb}
use Rattle.loops.specs.Found.{found-by}
use Rattle.loops.specs.Keyed.{free-more, free-less, free-same}
use Rattle.state.specs.State.{max_pairs, max_slots, pair0, st0, no_st}
use Rattle.state.specs.Setters.{with_pair, with_st}
use Rattle.state.specs.Pairs.{pair_of, free_pair, free_pairs, drop_at, set_pair}
use Rattle.state.specs.Staged.{slot_of, free_slots}
use Rattle.state.specs.PairLaws.{pair_idx-lt, free_pair-lt, slot_of-lt}
use Rattle.state.proofs.LookupLaws.{pair_key, st_key, pair_idx-is, free_pair-is, free_pair-none, free_pairs-none, none-pair_of, some-pair_of, slot_of-is}
use Rattle.state.proofs.SetPairLaws.{drop-pair, set_pair-removed, set_pair-over, set_pair-new, set_pair-none, set_pair-full}
use Rattle.state.specs.declared.w.Pair.{Pair}
use Rattle.state.specs.declared.w.St.{St}
use Rattle.state.specs.declared.w.W.{W}

-- one place is freed, taken, and set over
module _ (ps : List Pair) (i : ℕ) (p : Pair) where
  pub free_pairs-freed : i < max_pairs → ((get_or ps i pair0).c ≡ 0 → ⊥) → p.c ≡ 0 → free_pairs (set ps i p) ≡ free_pairs ps + 1
  unfolding free_pairs
  free_pairs-freed l h q = free-more pair_key pair0 max_pairs ps i p refl l h q

  pub free_pairs-taken : length ps ≡ max_pairs → i < max_pairs → (get_or ps i pair0).c ≡ 0 → (p.c ≡ 0 → ⊥) → free_pairs (set ps i p) + 1 ≡ free_pairs ps
  unfolding free_pairs
  free_pairs-taken n l q h = free-less pair_key pair0 max_pairs ps i p l (rw n l) q h

  pub free_pairs-over : ((get_or ps i pair0).c ≡ 0 → ⊥) → (p.c ≡ 0 → ⊥) → free_pairs (set ps i p) ≡ free_pairs ps
  unfolding free_pairs
  free_pairs-over h g = free-same pair_key pair0 max_pairs ps i p (ne_eqb p.c 0 g ∙ sym (ne_eqb (get_or ps i pair0).c 0 h))

module _ (ss : List St) (k : ℕ) (s : St) where
  pub free_slots-freed : k < max_slots → ((get_or ss k no_st).c ≡ 0 → ⊥) → s.c ≡ 0 → free_slots (set ss k s) ≡ free_slots ss + 1
  unfolding free_slots
  free_slots-freed l h q = free-more st_key no_st max_slots ss k s refl l h q

  pub free_slots-taken : length ss ≡ max_slots → k < max_slots → (get_or ss k no_st).c ≡ 0 → (s.c ≡ 0 → ⊥) → free_slots (set ss k s) + 1 ≡ free_slots ss
  unfolding free_slots
  free_slots-taken n l q h = free-less st_key no_st max_slots ss k s l (rw n l) q h

  pub free_slots-over : ((get_or ss k no_st).c ≡ 0 → ⊥) → (s.c ≡ 0 → ⊥) → free_slots (set ss k s) ≡ free_slots ss
  unfolding free_slots
  free_slots-over h g = free-same st_key no_st max_slots ss k s (ne_eqb s.c 0 g ∙ sym (ne_eqb (get_or ss k no_st).c 0 h))

-- the slot of cluster c is dropped
pub drop-free_slots : (w : W) (c k : ℕ) → slot_of w.st c ≡ Some k → free_slots (drop_at w (slot_of w.st c)).st ≡ free_slots w.st + 1
unfolding drop_at with_st
drop-free_slots w c k e =
    let u = slot_of-is w.st c k e in
    rw e (free_slots-freed w.st k st0 (slot_of-lt w.st c k e) (λ q. u.1 (sym u.0 ∙ q)) refl)

pub drop-none : (w : W) (c : ℕ) → slot_of w.st c ≡ None → drop_at w (slot_of w.st c) ≡ w
unfolding drop_at
drop-none w c e = rw e

-- the pair of cluster c is set to v
module _ (w : W) (c v : ℕ) where
  module _ (u : ℕ) (e : pair_of w.pair c ≡ Some u) where
    -- a pair is removed: one place more, and one slot more where it had one
    pub free_pairs-removed : v ≡ 0 → free_pairs (set_pair w c v).pair ≡ free_pairs w.pair + 1
    unfolding with_pair
    free_pairs-removed z =
        some-pair_of w.pair c u e
        (λ i q r. let x = pair_idx-is w.pair c i q in
        rw (set_pair-removed w c v i q z, drop-pair (with_pair w (set w.pair i pair0)) (slot_of w.st c))
        (free_pairs-freed w.pair i pair0 (pair_idx-lt w.pair c i q) (λ y. x.1 (sym x.0 ∙ y)) refl))

    pub free_slots-removed : v ≡ 0 → (k : ℕ) → slot_of w.st c ≡ Some k → free_slots (set_pair w c v).st ≡ free_slots w.st + 1
    unfolding with_pair
    free_slots-removed z k f =
        some-pair_of w.pair c u e
        (λ i q r. rw (set_pair-removed w c v i q z) (drop-free_slots (with_pair w (set w.pair i pair0)) c k f))

    pub slots-removed : v ≡ 0 → slot_of w.st c ≡ None → (set_pair w c v).st ≡ w.st
    unfolding with_pair
    slots-removed z f =
        some-pair_of w.pair c u e
        (λ i q r. rw (set_pair-removed w c v i q z) (ap (λ (x : W). x.st) (drop-none (with_pair w (set w.pair i pair0)) c f)))

    -- its value changes
    pub free_pairs-changed : (v ≡ 0 → ⊥) → free_pairs (set_pair w c v).pair ≡ free_pairs w.pair
    unfolding with_pair
    free_pairs-changed h =
        some-pair_of w.pair c u e
        (λ i q r. let x = pair_idx-is w.pair c i q in
        rw (set_pair-over w c v i q h) (free_pairs-over w.pair i (record { c = c; v = v }) (λ y. x.1 (sym x.0 ∙ y)) x.1))

  module _ (e : pair_of w.pair c ≡ None) where
    -- a pair is added: one place less
    pub free_pairs-added : length w.pair ≡ max_pairs → (c ≡ 0 → ⊥) → (v ≡ 0 → ⊥) → (free_pairs w.pair ≡ 0 → ⊥)
        → free_pairs (set_pair w c v).pair + 1 ≡ free_pairs w.pair
    unfolding with_pair
    free_pairs-added n g h f =
        let q = none-pair_of w.pair c e in
        found-by (free_pair w.pair)
        (λ i r. rw (set_pair-new w c v i q h r)
        (free_pairs-taken w.pair i (record { c = c; v = v }) n (free_pair-lt w.pair i r) (free_pair-is w.pair i r) g))
        (λ r. absurd (f (free_pair-none w.pair r)))

    -- none is removed, and none fits
    pub set_pair-absent : v ≡ 0 → set_pair w c v ≡ w
    set_pair-absent z = set_pair-none w c v (none-pair_of w.pair c e) z

    pub set_pair-crowded : free_pairs w.pair ≡ 0 → set_pair w c v ≡ w
    set_pair-crowded f = set_pair-full w c v (none-pair_of w.pair c e) (free_pairs-none w.pair f)
