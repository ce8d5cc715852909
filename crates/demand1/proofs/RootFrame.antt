-- What a taken root sector changes.
use Rattle.std.specs.Prelude.{ℕ, ◌+◌, ◌*◌, ◌<◌, true, ◌&&◌, List, ◌≡◌, take, drop, Option, Some, None}
use Rattle.std.proofs.Math.Bool.{false, true≢false}
use Rattle.std.proofs.Math.Path.{refl, ap}
use Rattle.std.proofs.Common.{sym, ◌∙◌, get_or-set_other}
use Rattle.std.proofs.Math.Dec.{eqb}
use Rattle.std.proofs.Math.ListN.{get_or}
use borrow.Author.Tests.{eqb-true, eqb-false, eq-eqb}
use Rattle.loops.specs.Loops.{some}
use Rattle.loops.specs.Choices.{either, pick-by, and-of}
use Rattle.loops.specs.Found.{found-by}
use Rattle.records.specs.Records.{no_rec, rec_idx, free_rec, root_rec_at, root_rec}
use Rattle.records.specs.RecordLaws.{rec_idx-is, free_rec-is, root_rec-other}
use Rattle.records.specs.declared.Rec.{Rec}
use Rattle.state.specs.Setters.{with_rec}
use Rattle.state.specs.declared.w.W.{W}
use Rattle.root_sectors.specs.Root.{RootWrite, slot_at, kept_at, root_number, place_of, put_at, keep_slot, keep_at, root_state, root_changed}
use Rattle.judge.specs.Classify.{SectorWrite, root_of, root}
use Rattle.admits.specs.Bytes.{written_slot}
use Rattle.demand1.specs.Sound.{Sound}
use Rattle.demand1.specs.Changes.{Same, stores_slot, RootOnly}
use Rattle.demand1.proofs.RootOwn.{slot_kept, stored-same}
use Rattle.demand1.proofs.Turns.{fold-in, none-at}

-- root slot 0 has no record
rec-zero : (recs : List Rec) → rec_idx recs 0 ≡ None
rec-zero recs = found-by (rec_idx recs 0) (λ i e. absurd ((rec_idx-is recs 0 i e).1 refl)) (λ e. e)

zero-same : (a b : List Rec) → root_rec a 0 ≡ root_rec b 0
unfolding root_rec root_rec_at
zero-same a b = rw (rec-zero a, rec-zero b)

-- a record put into its place leaves the others
module _ (v : W) (r : Rec) where
  put-only : (f : Option ℕ) → put_at v r f ≡ with_rec v (put_at v r f).rec
  unfolding put_at with_rec
  put-only (Some i) = refl
  put-only None = refl

  pub put-other : (k : ℕ) → (r.slot ≡ k → ⊥) → root_rec (put_at v r (place_of v.rec (rec_idx v.rec r.slot))).rec k ≡ root_rec v.rec k
  unfolding put_at with_rec place_of
  put-other k h =
      either (eqb k 0)
      (λ q. let z = eqb-true k 0 q in rw z (zero-same _ v.rec))
      (λ q. let g = eqb-false k 0 q in
      found-by (rec_idx v.rec r.slot)
      (λ i e. rw e (root_rec-other v.rec i r k (λ y. h (sym (rec_idx-is v.rec r.slot i e).0 ∙ y)) h))
      (λ e. rw e (found-by (free_rec v.rec)
      (λ i f. rw f (root_rec-other v.rec i r k (λ y. g (sym y ∙ free_rec-is v.rec i f)) h))
      (λ f. rw f))))

  -- a record in use stays at its place
  put-place : (n : ℕ) → ((get_or v.rec n no_rec).slot ≡ 0 → ⊥) → (r.slot ≡ (get_or v.rec n no_rec).slot → ⊥)
      → get_or (put_at v r (place_of v.rec (rec_idx v.rec r.slot))).rec n no_rec ≡ get_or v.rec n no_rec
  unfolding put_at with_rec place_of
  put-place n u h =
      found-by (rec_idx v.rec r.slot)
      (λ i e. rw e (get_or-set_other v.rec i n r no_rec (λ q. h (sym (rec_idx-is v.rec r.slot i e).0 ∙ ap (λ (k : ℕ). (get_or v.rec k no_rec).slot) (sym q)))))
      (λ e. rw e (found-by (free_rec v.rec)
      (λ i f. rw f (get_or-set_other v.rec i n r no_rec (λ q. u (ap (λ (k : ℕ). (get_or v.rec k no_rec).slot) q ∙ free_rec-is v.rec i f))))
      (λ f. rw f)))

module _ (f : RootWrite) where
  abbrev pub rec_at : ℕ → Rec
  rec_at i = record { slot = slot_at f i; e = take 32 (drop (i * 32) f.written) }

  pub keep-cases : (P : W → Type 0) (i : ℕ) (v : W) → (kept_at f i ≡ false → P v)
      → (kept_at f i ≡ true → P (put_at v (rec_at i) (place_of v.rec (rec_idx v.rec (slot_at f i))))) → P (keep_at f i v)
  unfolding keep_slot kept_at
  keep-cases P i v h g = pick-by P (kept_at f i) (put_at v (rec_at i) (place_of v.rec (rec_idx v.rec (slot_at f i)))) v g h

  keep-by : (P : W → Type 0) (i : ℕ) (v : W) → P v
      → (kept_at f i ≡ true → P (put_at v (rec_at i) (place_of v.rec (rec_idx v.rec (slot_at f i))))) → P (keep_at f i v)
  keep-by P i v h g = keep-cases P i v (λ q. h) g

module _ (w : W) (f : RootWrite) where
  only-keep : (i : ℕ) (v : W) → i < 16 → v ≡ with_rec w v.rec → keep_at f i v ≡ with_rec w (keep_at f i v).rec
  unfolding with_rec
  only-keep i v l e =
      keep-by f (λ u. u ≡ with_rec w u.rec) i v e
      (λ q. let g = place_of v.rec (rec_idx v.rec (slot_at f i)) in
      put-only v (rec_at f i) g ∙ ap (λ (u : W). with_rec u (put_at v (rec_at f i) g).rec) e)

  kept-not : (k i : ℕ) → slot_kept f k ≡ false → i < 16 → kept_at f i ≡ true → slot_at f i ≡ k → ⊥
  unfolding slot_kept
  kept-not k i e l q z =
      true≢false (sym (and-of (kept_at f i) (eqb (slot_at f i) k) q (eq-eqb (slot_at f i) k z)) ∙ none-at (λ i. kept_at f i && eqb (slot_at f i) k) 16 i e l)

  rec-keep : (k : ℕ) → slot_kept f k ≡ false → (i : ℕ) (v : W) → i < 16 → root_rec v.rec k ≡ root_rec w.rec k
      → root_rec (keep_at f i v).rec k ≡ root_rec w.rec k
  rec-keep k e i v l h =
      keep-by f (λ u. root_rec u.rec k ≡ root_rec w.rec k) i v h (λ q. put-other v (rec_at f i) k (kept-not k i e l q) ∙ h)

  place-keep : (n : ℕ) → ((get_or w.rec n no_rec).slot ≡ 0 → ⊥) → slot_kept f (get_or w.rec n no_rec).slot ≡ false
      → (i : ℕ) (v : W) → i < 16 → get_or v.rec n no_rec ≡ get_or w.rec n no_rec → get_or (keep_at f i v).rec n no_rec ≡ get_or w.rec n no_rec
  place-keep n u e i v l h =
      keep-by f (λ r. get_or r.rec n no_rec ≡ get_or w.rec n no_rec) i v h
      (λ q. put-place v (rec_at f i) n (λ y. u (rw h at y)) (λ y. kept-not (get_or w.rec n no_rec).slot i e l q (rw h at y)) ∙ h)

  none-keep : some (kept_at f) 16 0 ≡ false → (i : ℕ) (v : W) → i < 16 → v ≡ w → keep_at f i v ≡ w
  none-keep e i v l h = keep-by f (λ u. u ≡ w) i v h (λ q. absurd (true≢false (sym q ∙ none-at (kept_at f) 16 i e l)))

module _ (x : SectorWrite) (w : W) (s : ℕ) where
  pub root-only : (root x w s).number ≡ 0
      → (Sound w → (i : ℕ) → i < 16 → stores_slot x s i ≡ true → root_rec (root x w s).w.rec (s * 16 + i) ≡ record { found = true; e = written_slot x i })
      → RootOnly x w s (root x w s)
  unfolding root root_state with_rec
  root-only e keeps =
      let f = root_of x w s in
      let q = eq-eqb (root_number f) 0 e in
      record {
        state = rw q (fold-in (λ u. u ≡ with_rec w u.rec) (keep_at f) 16 (only-keep w f) w refl);
        keeps = keeps;
        recs = λ k n. rw q (fold-in (λ u. root_rec u.rec k ≡ root_rec w.rec k) (keep_at f) 16 (rec-keep w f k (sym (stored-same x w s k) ∙ n)) w refl);
        places = λ n u k.
            rw q (fold-in (λ v. get_or v.rec n no_rec ≡ get_or w.rec n no_rec) (keep_at f) 16 (place-keep w f n u (sym (stored-same x w s (get_or w.rec n no_rec).slot) ∙ k)) w refl);
        ids = refl;
        area = refl;
      }

  -- where nothing but dates changed, nothing is kept
  pub root-same : (root x w s).number ≡ 0 → (root x w s).changed ≡ false → Same x w (root x w s)
  unfolding root root_state root_changed
  root-same e c =
      let f = root_of x w s in
      let q = eq-eqb (root_number f) 0 e in
      let n : some (kept_at f) 16 0 ≡ false = rw q at c in
      record { state = rw q (fold-in (λ u. u ≡ w) (keep_at f) 16 (none-keep w f n) w refl); ids = refl; area = refl }
