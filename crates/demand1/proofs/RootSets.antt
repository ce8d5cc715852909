-- A taken root sector keeps every changed host slot as written.
use Rattle.std.specs.Prelude.{ℕ, ◌+◌, ◌*◌, ◌≤◌, ◌<◌, Bool, true, ◌&&◌, List, ◌≡◌, ltb, length, set, take, drop, Some, None}
use Rattle.std.proofs.Math.Bool.{not}
use Rattle.std.proofs.Common.{true≢false, sym, ◌∙◌}
use Rattle.std.proofs.Math.Path.{refl, ap}
use native.Mathlib.Omega.{arith}
use Rattle.std.proofs.Math.ListN.{length-set}
use borrow.Author.Tests.{eq-eqb, leb-false, ltb-true, ltb-false, not-true}
use Rattle.loops.specs.Loops.{pick, first, count}
use Rattle.loops.specs.Choices.{picked, and-1, and-of}
use Rattle.loops.specs.Facts.{first-at}
use Rattle.loops.specs.Found.{found-by}
use Rattle.records.specs.Records.{max_records, rec_idx, free_rec, free_recs, root_rec_at, root_rec}
use Rattle.records.specs.RecordLaws.{rec_idx-is, free_rec-lt, free_rec-is, free_rec-none, free_recs-taken, free_recs-over, root_rec-over, root_rec-new}
use Rattle.records.specs.declared.Rec.{Rec}
use Rattle.state.specs.Setters.{with_rec}
use Rattle.state.specs.declared.w.W.{W}
use Rattle.clusters.specs.Clusters.{is_nothing}
use Rattle.root_sectors.specs.Root.{RootWrite, slot_at, is_own, changed_at, slot_number, refused_at, kept_at, needs_rec, root_number, place_of, put_at, keep_at, root_state}
use Rattle.judge.specs.Classify.{SectorWrite, root_of, root}
use Rattle.admits.specs.Bytes.{written_slot}
use Rattle.demand1.specs.Sound.{Sound}
use Rattle.demand1.specs.Changes.{stores_slot}
use Rattle.demand1.proofs.RootOwn.{stores-same}
use Rattle.demand1.proofs.Room.{fold-does}
use Rattle.demand1.proofs.RootFrame.{rec_at, keep-cases, put-other}

-- a slot has no place where the lookup finds no record
none-found : (recs : List Rec) (k : ℕ) → is_nothing (rec_idx recs k) ≡ not (root_rec recs k).found
unfolding is_nothing root_rec root_rec_at
none-found recs k = found-by (rec_idx recs k) (λ i e. rw e) (λ e. rw e)

-- the ways to put a record
pub put-by : (P : W → Type 0) (v : W) (r : Rec)
    → ((k : ℕ) → rec_idx v.rec r.slot ≡ Some k → P (with_rec v (set v.rec k r)))
    → ((k : ℕ) → rec_idx v.rec r.slot ≡ None → free_rec v.rec ≡ Some k → P (with_rec v (set v.rec k r)))
    → (rec_idx v.rec r.slot ≡ None → free_rec v.rec ≡ None → P v)
    → P (put_at v r (place_of v.rec (rec_idx v.rec r.slot)))
unfolding put_at place_of
put-by P v r over new full =
    found-by (rec_idx v.rec r.slot) (λ k e. rw e (over k e))
    (λ e. rw e (found-by (free_rec v.rec) (λ k f. rw f (new k e f)) (λ f. rw f (full e f))))

module _ (f : RootWrite) where
  abbrev needs : W → ℕ → Bool
  needs v j = kept_at f j && is_nothing (rec_idx v.rec (slot_at f j))

  abbrev Keeps : ℕ → W → Type 0
  Keeps j v = kept_at f j ≡ true → root_rec v.rec (slot_at f j) ≡ record { found = true; e = take 32 (drop (j * 32) f.written) }

  abbrev Long : W → Type 0
  Long v = length v.rec ≡ max_records

  host-slot : (i : ℕ) → kept_at f i ≡ true → slot_at f i ≡ 0 → ⊥
  unfolding kept_at
  host-slot i e z =
      let q = leb-false (slot_at f i) 6 (not-true (is_own f i) (and-1 (changed_at f i) (not (is_own f i)) e)) in
      omega arith

  needs-it : (v : W) (i : ℕ) → kept_at f i ≡ true → rec_idx v.rec (slot_at f i) ≡ None → needs v i ≡ true
  unfolding is_nothing
  needs-it v i k e = and-of (kept_at f i) (is_nothing (rec_idx v.rec (slot_at f i))) k (rw e)

  long-keep : (i : ℕ) (v : W) → i < 16 → Long v → Long (keep_at f i v)
  unfolding with_rec
  long-keep i v l h =
      keep-cases f Long i v (λ q. h)
      (λ q. put-by Long v (rec_at f i) (λ k e. length-set v.rec k (rec_at f i) ∙ h) (λ k e g. length-set v.rec k (rec_at f i) ∙ h) (λ e g. h))

  does : (i : ℕ) (v : W) → i < 16 → Long v → (needs v i ≡ true → free_recs v.rec ≡ 0 → ⊥) → Keeps i (keep_at f i v)
  unfolding with_rec
  does i v l h some =
      keep-cases f (Keeps i) i v (λ q k. absurd (true≢false (sym k ∙ q)))
      (λ q. put-by (Keeps i) v (rec_at f i)
      (λ k e g. root_rec-over v.rec k (rec_at f i) e)
      (λ k e g z. root_rec-new v.rec k (rec_at f i) e h (free_rec-lt v.rec k g) (host-slot i q))
      (λ e g. absurd (some (needs-it v i q e) (free_rec-none v.rec g))))

  other-kept : (i j : ℕ) (v : W) → (i ≡ j → ⊥) → root_rec (keep_at f i v).rec (slot_at f j) ≡ root_rec v.rec (slot_at f j)
  other-kept i j v n =
      keep-cases f (λ u. root_rec u.rec (slot_at f j) ≡ root_rec v.rec (slot_at f j)) i v (λ q. refl)
      (λ q. put-other v (rec_at f i) (slot_at f j) (λ z. n (omega arith)))

  other-needs : (i j : ℕ) (v : W) → (i ≡ j → ⊥) → needs (keep_at f i v) j ≡ needs v j
  other-needs i j v n =
      ap (λ (b : Bool). kept_at f j && b)
      (none-found (keep_at f i v).rec (slot_at f j) ∙ rw (other-kept i j v n) (sym (none-found v.rec (slot_at f j))))

  has-room : (i : ℕ) (v : W) → i < 16 → Long v → (needs v i ≡ true → free_recs v.rec ≡ 0 → ⊥)
      → free_recs v.rec ≤ free_recs (keep_at f i v).rec + pick (needs v i) 1 0
  unfolding with_rec
  has-room i v l h some =
      keep-cases f (λ u. free_recs v.rec ≤ free_recs u.rec + pick (needs v i) 1 0) i v (λ q. omega arith)
      (λ q. put-by (λ u. free_recs v.rec ≤ free_recs u.rec + pick (needs v i) 1 0) v (rec_at f i)
      (λ k e. let u = rec_idx-is v.rec (slot_at f i) k e in
      let z = free_recs-over v.rec k (rec_at f i) (λ y. host-slot i q (sym u.0 ∙ y)) (host-slot i q) in
      omega arith)
      (λ k e g. let z = free_recs-taken v.rec k (rec_at f i) h (free_rec-lt v.rec k g) (free_rec-is v.rec k g) (host-slot i q) in
      rw (needs-it v i q e) (omega arith))
      (λ e g. omega arith))

module _ (x : SectorWrite) (w : W) (s : ℕ) where
  fits : (root x w s).number ≡ 0 → count (needs (root_of x w s) w) 16 0 ≤ free_recs w.rec
  unfolding root root_number needs_rec
  fits e =
      let f = root_of x w s in
      picked (ltb (first (refused_at f) 16 0) 16) (slot_number f (first (refused_at f) 16 0)) _ 0 e
      (λ q n. absurd (true≢false (sym (first-at (refused_at f) 16 0 (ltb-true (first (refused_at f) 16 0) 16 q)) ∙ ap not (eq-eqb (slot_number f (first (refused_at f) 16 0)) 0 n))))
      (λ q n. picked (ltb (free_recs w.rec) (count (needs_rec f) 16 0)) 15 0 0 n (λ t z. absurd (omega arith)) (λ t z. ltb-false (free_recs w.rec) (count (needs_rec f) 16 0) t))

  pub root-keeps : (root x w s).number ≡ 0 → Sound w → (i : ℕ) → i < 16 → stores_slot x s i ≡ true
      → root_rec (root x w s).w.rec (s * 16 + i) ≡ record { found = true; e = written_slot x i }
  unfolding root root_state
  root-keeps e h i l k =
      let f = root_of x w s in
      rw (eq-eqb (root_number f) 0 e)
      (fold-does (keep_at f) (needs f) (λ v. free_recs v.rec) (λ i. Long f) (Keeps f) 16 (long-keep f) (does f) (λ i j v n d q. other-kept f i j v n ∙ d q)
      (other-needs f) (has-room f) 16 0 w refl h.recs (fits e) i (omega arith) l (sym (stores-same x w s i) ∙ k))
