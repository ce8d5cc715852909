-- What setting a pair does to every cluster's pair and staging slot, and that it changes nothing else.
use Rattle.std.specs.Prelude.{ℕ, ◌<◌, List, ◌≡◌, eqb, length, get_or, set, Option, Some, None}
use Rattle.std.proofs.Math.Path.{refl, sym}
use Rattle.std.proofs.Common.{◌∙◌, length-set}
use Rattle.std.proofs.Math.Seq.{get_or-set_same}
use borrow.Author.Tests.{eqb-true, eqb-false, eq-eqb, ne_eqb}
use Rattle.loops.specs.Choices.{either, pick-by}
use Rattle.loops.specs.Found.{found-by}
use Rattle.loops.specs.Keyed.{found-in, other-found, other-stands, over-found, new-found, gone-found, no_twice-set}
use Rattle.state.specs.State.{max_pairs, max_slots, pair0, st0, no_st}
use Rattle.state.specs.Setters.{with_pair, with_st}
use Rattle.state.specs.Pairs.{is_pair, pair_idx, pair_at, pair_of, free_pair, free_pairs, drop_at, add_at, set_at, set_pair}
use Rattle.state.specs.Staged.{is_slot, slot_of}
use Rattle.state.specs.PairLaws.{pair_idx-lt, free_pair-lt}
use Rattle.state.proofs.LookupLaws.{pair_key, st_key, NoTwice, NoSlotTwice, pair_idx-is, pair_idx-none, free_pair-is, free_pair-none, pair_of-none, some-pair_of, slot_of-is, slot_of-zero, pair_of-zero}
use Rattle.state.specs.declared.w.Pair.{Pair}
use Rattle.state.specs.declared.w.St.{St}
use Rattle.state.specs.declared.w.W.{W}

pub drop-pair : (w : W) (f : Option ℕ) → (drop_at w f).pair ≡ w.pair
unfolding drop_at with_st
drop-pair w (Some k) = refl
drop-pair w None = refl

drop-st : (P : List St → Type 0) (w : W) (f : Option ℕ) → P w.st → ((k : ℕ) → f ≡ Some k → P (set w.st k st0)) → P (drop_at w f).st
unfolding drop_at with_st
drop-st P w (Some k) h g = g k refl
drop-st P w None h g = h

-- The ways to set the pair of cluster c to v.
module _ (w : W) (c v : ℕ) where
  -- it is removed, with its staging slot
  pub set_pair-removed : (i : ℕ) → pair_idx w.pair c ≡ Some i → v ≡ 0 → set_pair w c v ≡ drop_at (with_pair w (set w.pair i pair0)) (slot_of w.st c)
  unfolding set_pair set_at
  set_pair-removed i e z = rw (e, eq-eqb v 0 z)

  -- its value changes
  pub set_pair-over : (i : ℕ) → pair_idx w.pair c ≡ Some i → (v ≡ 0 → ⊥) → set_pair w c v ≡ with_pair w (set w.pair i (record { c = c; v = v }))
  unfolding set_pair set_at
  set_pair-over i e h = rw (e, ne_eqb v 0 h, (pair_idx-is w.pair c i e).0)

  -- it is new, in a place that was free
  pub set_pair-new : (i : ℕ) → pair_idx w.pair c ≡ None → (v ≡ 0 → ⊥) → free_pair w.pair ≡ Some i
      → set_pair w c v ≡ with_pair w (set w.pair i (record { c = c; v = v }))
  unfolding set_pair set_at add_at
  set_pair-new i e h f = rw (e, ne_eqb v 0 h, f)

  -- nothing is set: there is no pair to remove, or no place for a new one
  pub set_pair-none : pair_idx w.pair c ≡ None → v ≡ 0 → set_pair w c v ≡ w
  unfolding set_pair set_at
  set_pair-none e z = rw (e, eq-eqb v 0 z)

  pub set_pair-full : pair_idx w.pair c ≡ None → free_pair w.pair ≡ None → set_pair w c v ≡ w
  unfolding set_pair set_at add_at
  set_pair-full e f = rw (e, f) (pick-by (λ (x : W). x ≡ w) (eqb v 0) w w (λ q. refl) (λ q. refl))

  -- what holds of each of these holds of what was set
  pub set_pair-by : (P : W → Type 0)
      → ((i : ℕ) → pair_idx w.pair c ≡ Some i → v ≡ 0 → P (drop_at (with_pair w (set w.pair i pair0)) (slot_of w.st c)))
      → ((i : ℕ) → pair_idx w.pair c ≡ Some i → (v ≡ 0 → ⊥) → P (with_pair w (set w.pair i (record { c = c; v = v }))))
      → ((i : ℕ) → pair_idx w.pair c ≡ None → (v ≡ 0 → ⊥) → free_pair w.pair ≡ Some i → P (with_pair w (set w.pair i (record { c = c; v = v }))))
      → P w → P (set_pair w c v)
  set_pair-by P removed over new same =
      either (eqb v 0)
      (λ q. let z = eqb-true v 0 q in
      found-by (pair_idx w.pair c) (λ i e. rw (set_pair-removed i e z) (removed i e z)) (λ e. rw (set_pair-none e z) same))
      (λ q. let h = eqb-false v 0 q in
      found-by (pair_idx w.pair c) (λ i e. rw (set_pair-over i e h) (over i e h))
      (λ e. found-by (free_pair w.pair) (λ i f. rw (set_pair-new i e h f) (new i e h f)) (λ f. rw (set_pair-full e f) same)))

  pub pair-by : (P : List Pair → Type 0)
      → ((i : ℕ) → pair_idx w.pair c ≡ Some i → v ≡ 0 → P (set w.pair i pair0))
      → ((i : ℕ) → pair_idx w.pair c ≡ Some i → (v ≡ 0 → ⊥) → P (set w.pair i (record { c = c; v = v })))
      → ((i : ℕ) → pair_idx w.pair c ≡ None → (v ≡ 0 → ⊥) → free_pair w.pair ≡ Some i → P (set w.pair i (record { c = c; v = v })))
      → P w.pair → P (set_pair w c v).pair
  unfolding with_pair
  pair-by P removed over new same =
      set_pair-by (λ x. P x.pair) (λ i e z. rw (drop-pair (with_pair w (set w.pair i pair0)) (slot_of w.st c)) (removed i e z)) over new same

  pub st-by : (P : List St → Type 0) → P w.st
      → ((i k : ℕ) → pair_idx w.pair c ≡ Some i → v ≡ 0 → slot_of w.st c ≡ Some k → P (set w.st k st0)) → P (set_pair w c v).st
  unfolding with_pair
  st-by P same dropped =
      set_pair-by (λ x. P x.st)
      (λ i e z. drop-st P (with_pair w (set w.pair i pair0)) (slot_of w.st c) same (λ k f. dropped i k e z f))
      (λ i e h. same) (λ i e h f. same) same

  -- there are as many places and slots as before
  pub pairs-length : length (set_pair w c v).pair ≡ length w.pair
  pairs-length =
      pair-by (λ ps. length ps ≡ length w.pair) (λ i e z. length-set w.pair i pair0)
      (λ i e h. length-set w.pair i (record { c = c; v = v })) (λ i e h f. length-set w.pair i (record { c = c; v = v })) refl

  pub slots-length : length (set_pair w c v).st ≡ length w.st
  slots-length = st-by (λ ss. length ss ≡ length w.st) refl (λ i k e z f. length-set w.st k st0)

  -- only a removal drops a slot
  pub set_pair-st : (v ≡ 0 → ⊥) → (set_pair w c v).st ≡ w.st
  set_pair-st h = st-by (λ ss. ss ≡ w.st) refl (λ i k e z f. absurd (h z))

-- One place set.
module _ (ps : List Pair) (i : ℕ) (p : Pair) where
  set-other : (c : ℕ) → ((get_or ps i pair0).c ≡ c → ⊥) → (p.c ≡ c → ⊥) → pair_of (set ps i p) c ≡ pair_of ps c
  unfolding pair_of pair_at pair_idx is_pair
  set-other c h g =
      found-by (pair_idx ps c)
      (λ j e. let u = pair_idx-is ps c j e in
      rw (other-found pair_key pair0 max_pairs ps i p c h g, e, other-stands pair_key pair0 max_pairs ps i p j (λ q. h (q ∙ u.0))))
      (λ e. rw (other-found pair_key pair0 max_pairs ps i p c h g, e))

  set-over : pair_idx ps p.c ≡ Some i → pair_of (set ps i p) p.c ≡ Some p.v
  unfolding pair_of pair_at pair_idx is_pair
  set-over e = rw (over-found pair_key pair0 max_pairs ps i p refl e, get_or-set_same ps i p pair0 (found-in pair_key pair0 max_pairs ps refl p.c i e))

  set-new : length ps ≡ max_pairs → pair_idx ps p.c ≡ None → i < max_pairs → (p.c ≡ 0 → ⊥) → pair_of (set ps i p) p.c ≡ Some p.v
  unfolding pair_of pair_at pair_idx is_pair
  set-new n e l h = rw (new-found pair_key pair0 max_pairs ps i p e l (rw n l) h, get_or-set_same ps i p pair0 (rw n l))

  set-gone : NoTwice ps → (c : ℕ) → pair_idx ps c ≡ Some i → (p.c ≡ c → ⊥) → pair_of (set ps i p) c ≡ None
  unfolding pair_of pair_at pair_idx is_pair
  set-gone t c e g = rw (gone-found pair_key pair0 max_pairs ps i p t refl c e g)

module _ (w : W) (c v : ℕ) where
  -- every other cluster's pair is as before
  pub pair_of-other : (k : ℕ) → (k ≡ c → ⊥) → pair_of (set_pair w c v).pair k ≡ pair_of w.pair k
  pair_of-other k h =
      either (eqb k 0)
      (λ q. let z = eqb-true k 0 q in rw z (pair_of-zero (set_pair w c v).pair ∙ sym (pair_of-zero w.pair)))
      (λ q. let g = eqb-false k 0 q in
      let p : Pair = record { c = c; v = v } in
      pair-by w c v (λ ps. pair_of ps k ≡ pair_of w.pair k)
      (λ i e z. set-other w.pair i pair0 k (λ y. h (sym y ∙ (pair_idx-is w.pair c i e).0)) (λ y. g (sym y)))
      (λ i e n. set-other w.pair i p k (λ y. h (sym y ∙ (pair_idx-is w.pair c i e).0)) (λ y. h (sym y)))
      (λ i e n f. set-other w.pair i p k (λ y. g (sym y ∙ free_pair-is w.pair i f)) (λ y. h (sym y)))
      refl)

  -- the cluster's own is v, where it had one or a place was free
  pub pair_of-same : length w.pair ≡ max_pairs → (c ≡ 0 → ⊥) → (v ≡ 0 → ⊥) → (pair_of w.pair c ≡ None → free_pairs w.pair ≡ 0 → ⊥)
      → pair_of (set_pair w c v).pair c ≡ Some v
  unfolding with_pair
  pair_of-same n g h some =
      let p : Pair = record { c = c; v = v } in
      found-by (pair_idx w.pair c)
      (λ i e. rw (set_pair-over w c v i e h) (set-over w.pair i p e))
      (λ e. found-by (free_pair w.pair)
      (λ i f. rw (set_pair-new w c v i e h f) (set-new w.pair i p n e (free_pair-lt w.pair i f) g))
      (λ f. absurd (some (pair_of-none w.pair c e) (free_pair-none w.pair f))))

  -- and it has none once it is 0
  pub pair_of-gone : NoTwice w.pair → v ≡ 0 → pair_of (set_pair w c v).pair c ≡ None
  unfolding with_pair
  pair_of-gone t z =
      found-by (pair_idx w.pair c)
      (λ i e. rw (set_pair-removed w c v i e z, drop-pair (with_pair w (set w.pair i pair0)) (slot_of w.st c))
      (set-gone w.pair i pair0 t c e (λ q. (pair_idx-is w.pair c i e).1 (sym q))))
      (λ e. rw (set_pair-none w c v e z) (pair_of-none w.pair c e))

  -- no cluster gets a second pair or slot
  pub no_twice-set_pair : NoTwice w.pair → NoTwice (set_pair w c v).pair
  no_twice-set_pair t =
      let p : Pair = record { c = c; v = v } in
      pair-by w c v NoTwice
      (λ i e z. no_twice-set pair_key pair0 max_pairs w.pair i pair0 t (λ j l n q. refl))
      (λ i e h. let u = pair_idx-is w.pair c i e in
      no_twice-set pair_key pair0 max_pairs w.pair i p t
      (λ j l n q. absurd (n (t j i l (pair_idx-lt w.pair c i e) (λ y. u.1 (sym q ∙ y)) (q ∙ sym u.0)))))
      (λ i e h f. no_twice-set pair_key pair0 max_pairs w.pair i p t
      (λ j l n q. either (eqb c 0) (eqb-true c 0) (λ y. absurd (pair_idx-none w.pair c j e (eqb-false c 0 y) l q))))
      t

  pub no_slot_twice-set_pair : NoSlotTwice w.st → NoSlotTwice (set_pair w c v).st
  no_slot_twice-set_pair t = st-by w c v NoSlotTwice t (λ i k e z f. no_twice-set st_key no_st max_slots w.st k st0 t (λ j l n q. refl))

  -- nor does setting a pair touch any other cluster's slot; a removal drops its own
  pub slot_of-other : (k : ℕ) → (k ≡ c → ⊥) → slot_of (set_pair w c v).st k ≡ slot_of w.st k
  unfolding slot_of is_slot
  slot_of-other k h =
      either (eqb k 0)
      (λ q. let z = eqb-true k 0 q in rw z (slot_of-zero (set_pair w c v).st ∙ sym (slot_of-zero w.st)))
      (λ q. st-by w c v (λ ss. slot_of ss k ≡ slot_of w.st k) refl
      (λ i j e z f. other-found st_key no_st max_slots w.st j st0 k (λ y. h (sym y ∙ (slot_of-is w.st c j f).0)) (λ y. eqb-false k 0 q (sym y))))

  pub slot-stands : (j : ℕ) → ((get_or w.st j no_st).c ≡ c → ⊥) → get_or (set_pair w c v).st j no_st ≡ get_or w.st j no_st
  slot-stands j h =
      st-by w c v (λ ss. get_or ss j no_st ≡ get_or w.st j no_st) refl
      (λ i k e z f. other-stands st_key no_st max_slots w.st k st0 j (λ y. h (sym y ∙ (slot_of-is w.st c k f).0)))

  pub slot_of-gone : NoSlotTwice w.st → (u : ℕ) → pair_of w.pair c ≡ Some u → v ≡ 0 → slot_of (set_pair w c v).st c ≡ None
  unfolding slot_of is_slot with_pair with_st drop_at
  slot_of-gone t u e z =
      some-pair_of w.pair c u e
      (λ i q r. found-by (slot_of w.st c)
      (λ k f. rw (set_pair-removed w c v i q z, f) (gone-found st_key no_st max_slots w.st k st0 t refl c f (λ y. (slot_of-is w.st c k f).1 (sym y))))
      (λ f. rw (set_pair-removed w c v i q z, f) f))

-- all fields but the pairs and the staging slots are as before
pub record OnlyPairs (w w' : W) : Type 0 where
  pub rw : w'.rw ≡ w.rw
  pub want_rw : w'.want_rw ≡ w.want_rw
  pub boot : w'.boot ≡ w.boot
  pub fat1 : w'.fat1 ≡ w.fat1
  pub rec : w'.rec ≡ w.rec
  pub session : w'.session ≡ w.session
  pub locks : w'.locks ≡ w.locks
  pub last : w'.last ≡ w.last
  pub now_ms : w'.now_ms ≡ w.now_ms
  pub staging : w'.staging ≡ w.staging
  pub stage_t : w'.stage_t ≡ w.stage_t
  pub hint : w'.hint ≡ w.hint
  pub err : w'.err ≡ w.err
  pub fw : w'.fw ≡ w.fw
  pub done : w'.done ≡ w.done
  pub ver : w'.ver ≡ w.ver
  pub end_at : w'.end_at ≡ w.end_at
  pub parks : w'.parks ≡ w.parks
  pub purged : w'.purged ≡ w.purged
  pub purge : w'.purge ≡ w.purge
  pub n : w'.n ≡ w.n
  pub first : w'.first ≡ w.first

only-pairs : (w : W) (ps : List Pair) (ss : List St) → OnlyPairs w (with_st (with_pair w ps) ss)
unfolding with_pair with_st
only-pairs w ps ss = record { rw = refl; want_rw = refl; boot = refl; fat1 = refl; rec = refl; session = refl; locks = refl; last = refl; now_ms = refl; staging = refl; stage_t = refl; hint = refl; err = refl; fw = refl; done = refl; ver = refl; end_at = refl; parks = refl; purged = refl; purge = refl; n = refl; first = refl }

drop-only : (w : W) (ps : List Pair) (f : Option ℕ) → OnlyPairs w (drop_at (with_pair w ps) f)
unfolding with_pair with_st drop_at
drop-only w ps (Some k) = only-pairs w ps (set w.st k st0)
drop-only w ps None = only-pairs w ps w.st

pub set_pair-only : (w : W) (c v : ℕ) → OnlyPairs w (set_pair w c v)
unfolding with_pair with_st
set_pair-only w c v =
    let p : Pair = record { c = c; v = v } in
    set_pair-by w c v (OnlyPairs w)
    (λ i e z. drop-only w (set w.pair i pair0) (slot_of w.st c))
    (λ i e h. only-pairs w (set w.pair i p) w.st)
    (λ i e h f. only-pairs w (set w.pair i p) w.st)
    (only-pairs w w.pair w.st)
