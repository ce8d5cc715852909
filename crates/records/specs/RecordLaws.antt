-- Laws of the records' places: what a lookup finds, and what setting a record does to it.
use Rattle.std.specs.Prelude.{ℕ, ◌+◌, ◌<◌, true, false, List, ◌≡◌, length, get_or, set, replicate, Some, None}
use Rattle.std.proofs.Math.Path.{refl, sym}
use Rattle.std.proofs.Common.{◌∙◌, eqb-true, ne_eqb}
use Rattle.std.proofs.Math.Seq.{get_or-set_same}
use Rattle.loops.specs.Found.{found-by, find-lt, find-is, find-count, count-find}
use Rattle.loops.specs.Keyed.{NoTwiceOf, used-found, used-none, found-in, other-found, other-stands, over-found, new-found, gone-found, no_twice-set, free-more, free-less, free-same}
use Rattle.records.specs.Records.{max_records, no_rec, is_rec, rec_here, rec_idx, free_here, free_rec, free_recs, root_rec_at, root_rec}
use Rattle.records.specs.declared.Rec.{Rec}

abbrev slot_key : Rec → ℕ
slot_key r = r.slot

-- no root slot has two records
abbrev pub NoRecTwice : List Rec → Type 0
NoRecTwice recs = NoTwiceOf slot_key no_rec max_records recs

-- a place that was found is one of them
pub rec_idx-lt : (recs : List Rec) (k i : ℕ) → rec_idx recs k ≡ Some i → i < max_records
unfolding rec_idx
rec_idx-lt recs k i e = find-lt (rec_here recs k) max_records i e

pub free_rec-lt : (recs : List Rec) (i : ℕ) → free_rec recs ≡ Some i → i < max_records
unfolding free_rec
free_rec-lt recs i e = find-lt (free_here recs) max_records i e

-- a lookup finds the root slot's record; where it finds nothing, there is none
pub rec_idx-is : (recs : List Rec) (k i : ℕ) → rec_idx recs k ≡ Some i → ((get_or recs i no_rec).slot ≡ k) × (k ≡ 0 → ⊥)
unfolding rec_idx is_rec
rec_idx-is recs k i e = used-found slot_key no_rec max_records recs k i e

pub rec_idx-none : (recs : List Rec) (k i : ℕ) → rec_idx recs k ≡ None → (k ≡ 0 → ⊥) → i < max_records → (get_or recs i no_rec).slot ≡ k → ⊥
unfolding rec_idx is_rec
rec_idx-none recs k i e h l q = used-none slot_key no_rec max_records recs k i e h l q

pub free_rec-is : (recs : List Rec) (i : ℕ) → free_rec recs ≡ Some i → (get_or recs i no_rec).slot ≡ 0
unfolding free_rec
free_rec-is recs i e = eqb-true (get_or recs i no_rec).slot 0 (find-is (free_here recs) max_records i e)

-- no place is free exactly where none counts
pub free_rec-none : (recs : List Rec) → free_rec recs ≡ None → free_recs recs ≡ 0
unfolding free_rec free_recs
free_rec-none recs e = find-count (free_here recs) max_records e

pub free_recs-none : (recs : List Rec) → free_recs recs ≡ 0 → free_rec recs ≡ None
unfolding free_rec free_recs
free_recs-none recs e = count-find (free_here recs) max_records e

module _ (recs : List Rec) (i : ℕ) (r : Rec) where
  -- how many places are free once a record is removed, set in a free place, and set over one
  pub free_recs-freed : i < max_records → ((get_or recs i no_rec).slot ≡ 0 → ⊥) → r.slot ≡ 0 → free_recs (set recs i r) ≡ free_recs recs + 1
  unfolding free_recs
  free_recs-freed l h q = free-more slot_key no_rec max_records recs i r refl l h q

  pub free_recs-taken : length recs ≡ max_records → i < max_records → (get_or recs i no_rec).slot ≡ 0 → (r.slot ≡ 0 → ⊥)
      → free_recs (set recs i r) + 1 ≡ free_recs recs
  unfolding free_recs
  free_recs-taken n l q h = free-less slot_key no_rec max_records recs i r l (rw n l) q h

  pub free_recs-over : ((get_or recs i no_rec).slot ≡ 0 → ⊥) → (r.slot ≡ 0 → ⊥) → free_recs (set recs i r) ≡ free_recs recs
  unfolding free_recs
  free_recs-over h g = free-same slot_key no_rec max_records recs i r (ne_eqb r.slot 0 g ∙ sym (ne_eqb (get_or recs i no_rec).slot 0 h))

  -- a record of a root slot that has none elsewhere
  pub no_rec_twice-set : NoRecTwice recs
      → ((j : ℕ) → j < max_records → (j ≡ i → ⊥) → (get_or recs j no_rec).slot ≡ r.slot → r.slot ≡ 0) → NoRecTwice (set recs i r)
  no_rec_twice-set t f = no_twice-set slot_key no_rec max_records recs i r t f

  -- the other root slots' records are as before
  pub root_rec-other : (k : ℕ) → ((get_or recs i no_rec).slot ≡ k → ⊥) → (r.slot ≡ k → ⊥) → root_rec (set recs i r) k ≡ root_rec recs k
  unfolding root_rec root_rec_at rec_idx is_rec
  root_rec-other k h g =
      found-by (rec_idx recs k)
      (λ j e. let u = rec_idx-is recs k j e in
      rw (other-found slot_key no_rec max_records recs i r k h g, e, other-stands slot_key no_rec max_records recs i r j (λ q. h (q ∙ u.0))))
      (λ e. rw (other-found slot_key no_rec max_records recs i r k h g, e))

  -- a record that was set is looked up: over the one found, and in any place where there was none
  pub root_rec-over : rec_idx recs r.slot ≡ Some i → root_rec (set recs i r) r.slot ≡ record { found = true; e = r.e }
  unfolding root_rec root_rec_at rec_idx is_rec
  root_rec-over e =
      rw (over-found slot_key no_rec max_records recs i r refl e, get_or-set_same recs i r no_rec (found-in slot_key no_rec max_records recs refl r.slot i e))

  pub root_rec-new : rec_idx recs r.slot ≡ None → length recs ≡ max_records → i < max_records → (r.slot ≡ 0 → ⊥)
      → root_rec (set recs i r) r.slot ≡ record { found = true; e = r.e }
  unfolding root_rec root_rec_at rec_idx is_rec
  root_rec-new e n l h = rw (new-found slot_key no_rec max_records recs i r e l (rw n l) h, get_or-set_same recs i r no_rec (rw n l))

  -- and one that was removed is not
  pub root_rec-gone : NoRecTwice recs → (k : ℕ) → rec_idx recs k ≡ Some i → (r.slot ≡ k → ⊥)
      → root_rec (set recs i r) k ≡ record { found = false; e = replicate 32 0 }
  unfolding root_rec root_rec_at rec_idx is_rec
  root_rec-gone t k e g = rw (gone-found slot_key no_rec max_records recs i r t refl k e g)
