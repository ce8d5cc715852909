-- What a lookup of a pair or a staging slot finds, and that no cluster has two.
use Rattle.std.specs.Prelude.{ℕ, ◌<◌, List, ◌≡◌, refl, get_or, Some, None}
use Rattle.std.proofs.Common.{sym, ◌∙◌, ap, arith}
use Rattle.std.proofs.lemmas.List.{get_or-replicate}
use borrow.Author.Tests.{eqb-true}
use Rattle.loops.specs.Found.{found-by, find-is, find-count, count-find}
use Rattle.loops.specs.Keyed.{NoTwiceOf, used-found, used-none}
use Rattle.state.specs.State.{max_pairs, max_slots, pair0, st0, no_st, initial}
use Rattle.state.specs.Pairs.{is_pair, pair_idx, pair_at, pair_of, free_pair_here, free_pair, free_pairs}
use Rattle.state.specs.Staged.{is_slot, slot_of, free_slot_here, free_slot, free_slots}
use Rattle.state.specs.declared.w.Pair.{Pair}
use Rattle.state.specs.declared.w.St.{St}

abbrev pub pair_key : Pair → ℕ
pair_key p = p.c

abbrev pub st_key : St → ℕ
st_key s = s.c

-- no cluster has two pairs, nor two staging slots
abbrev pub NoTwice : List Pair → Type 0
NoTwice ps = NoTwiceOf pair_key pair0 max_pairs ps

abbrev pub NoSlotTwice : List St → Type 0
NoSlotTwice ss = NoTwiceOf st_key no_st max_slots ss

-- a lookup finds the cluster's; where it finds nothing, there is none
module _ (ps : List Pair) where
  pub pair_idx-is : (c i : ℕ) → pair_idx ps c ≡ Some i → ((get_or ps i pair0).c ≡ c) × (c ≡ 0 → ⊥)
  unfolding pair_idx is_pair
  pair_idx-is c i e = used-found pair_key pair0 max_pairs ps c i e

  pub pair_idx-none : (c i : ℕ) → pair_idx ps c ≡ None → (c ≡ 0 → ⊥) → i < max_pairs → (get_or ps i pair0).c ≡ c → ⊥
  unfolding pair_idx is_pair
  pair_idx-none c i e h l q = used-none pair_key pair0 max_pairs ps c i e h l q

  pub free_pair-is : (i : ℕ) → free_pair ps ≡ Some i → (get_or ps i pair0).c ≡ 0
  unfolding free_pair
  free_pair-is i e = eqb-true (get_or ps i pair0).c 0 (find-is (free_pair_here ps) max_pairs i e)

  -- no place is free exactly where none counts
  pub free_pair-none : free_pair ps ≡ None → free_pairs ps ≡ 0
  unfolding free_pair free_pairs
  free_pair-none e = find-count (free_pair_here ps) max_pairs e

  pub free_pairs-none : free_pairs ps ≡ 0 → free_pair ps ≡ None
  unfolding free_pair free_pairs
  free_pairs-none e = count-find (free_pair_here ps) max_pairs e

  -- a cluster has a pair exactly where its place is found
  pub pair_of-at : (c i : ℕ) → pair_idx ps c ≡ Some i → pair_of ps c ≡ Some (get_or ps i pair0).v
  unfolding pair_of pair_at
  pair_of-at c i e = rw e

  pub pair_of-none : (c : ℕ) → pair_idx ps c ≡ None → pair_of ps c ≡ None
  unfolding pair_of pair_at
  pair_of-none c e = rw e

  pub none-pair_of : (c : ℕ) → pair_of ps c ≡ None → pair_idx ps c ≡ None
  none-pair_of c e =
      found-by (pair_idx ps c)
      (λ i q. let z : Some (get_or ps i pair0).v ≡ None = sym (pair_of-at c i q) ∙ e in let y : ◌≡◌ {A = ℕ} 0 1 = cc in absurd (omega arith))
      (λ q. q)

  pub some-pair_of : {R : Type 0} (c u : ℕ) → pair_of ps c ≡ Some u → ((i : ℕ) → pair_idx ps c ≡ Some i → (get_or ps i pair0).v ≡ u → R) → R
  some-pair_of c u e f =
      found-by (pair_idx ps c)
      (λ i q. let z : Some (get_or ps i pair0).v ≡ Some u = sym (pair_of-at c i q) ∙ e in f i q cc)
      (λ q. let z : None ≡ Some u = sym (pair_of-none c q) ∙ e in let y : ◌≡◌ {A = ℕ} 0 1 = cc in absurd (omega arith))

module _ (ss : List St) where
  pub slot_of-is : (c k : ℕ) → slot_of ss c ≡ Some k → ((get_or ss k no_st).c ≡ c) × (c ≡ 0 → ⊥)
  unfolding slot_of is_slot
  slot_of-is c k e = used-found st_key no_st max_slots ss c k e

  pub slot_of-none : (c k : ℕ) → slot_of ss c ≡ None → (c ≡ 0 → ⊥) → k < max_slots → (get_or ss k no_st).c ≡ c → ⊥
  unfolding slot_of is_slot
  slot_of-none c k e h l q = used-none st_key no_st max_slots ss c k e h l q

  pub free_slot-is : (k : ℕ) → free_slot ss ≡ Some k → (get_or ss k no_st).c ≡ 0
  unfolding free_slot
  free_slot-is k e = eqb-true (get_or ss k no_st).c 0 (find-is (free_slot_here ss) max_slots k e)

  pub free_slot-none : free_slot ss ≡ None → free_slots ss ≡ 0
  unfolding free_slot free_slots
  free_slot-none e = find-count (free_slot_here ss) max_slots e

  pub free_slots-none : free_slots ss ≡ 0 → free_slot ss ≡ None
  unfolding free_slot free_slots
  free_slots-none e = count-find (free_slot_here ss) max_slots e

-- cluster 0 has no pair, and no slot
pub pair_of-zero : (ps : List Pair) → pair_of ps 0 ≡ None
pair_of-zero ps = found-by (pair_idx ps 0) (λ i e. absurd ((pair_idx-is ps 0 i e).1 refl)) (λ e. pair_of-none ps 0 e)

pub slot_of-zero : (ss : List St) → slot_of ss 0 ≡ None
slot_of-zero ss = found-by (slot_of ss 0) (λ k e. absurd ((slot_of-is ss 0 k e).1 refl)) (λ e. e)

-- nor has any at first
pub no_twice-initial : (first : ℕ) → NoTwice (initial first).pair
unfolding initial
no_twice-initial first i j l m h q = absurd (h (ap pair_key (get_or-replicate max_pairs i pair0 pair0 l)))

pub no_slot_twice-initial : (first : ℕ) → NoSlotTwice (initial first).st
unfolding initial
no_slot_twice-initial first i j l m h q = absurd (h (ap st_key (get_or-replicate max_slots i st0 no_st l)))
