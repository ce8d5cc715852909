-- Laws of the state that a root sector leaves: its records are those of `root_records`, and nothing else changes.
use Rattle.std.specs.Prelude.{ℕ, zero, suc, ◌+◌, ◌*◌, Bool, true, false, not, ◌&&◌, List, ◌≡◌, refl, leb, eqb, Option, Some, None}
use Rattle.std.proofs.Common.{ap, ◌∙◌}
use Rattle.loops.specs.Loops.{pick, fold}
use Rattle.slots.specs.Slots.{same_slot}
use Rattle.records.specs.declared.Rec.{Rec}
use Rattle.state.specs.Setters.{with_rec}
use Rattle.state.specs.declared.w.W.{W}
use Rattle.root_sectors.specs.Root.{RootWrite, root_number, put_at, keep_slot, root_state}
use Rattle.root_sectors.specs.Records.{put_in, kept_in, keep_rec, root_records}

same-rec : (w : W) → w ≡ with_rec w w.rec
unfolding with_rec
same-rec w = refl

put-in : (w : W) (r : Rec) (f : Option ℕ) → put_at w r f ≡ with_rec w (put_in w.rec r f)
unfolding put_at put_in
put-in w r (Some k) = refl
put-in w r None = same-rec w

keep-rec : (s : ℕ) (shown written : List ℕ) (i : ℕ) (w : W) → keep_slot s shown written i w ≡ with_rec w (keep_rec s shown written i w.rec)
unfolding keep_slot keep_rec kept_in
keep-rec s shown written i w =
    by-test (not (same_slot shown written (i * 32)) && not (leb (s * 16 + i) 6)) _ _ (put-in w _ _)
  where
    by-test : (b : Bool) (v : W) (rs : List Rec) → v ≡ with_rec w rs → pick b v w ≡ with_rec w (pick b rs w.rec)
    by-test true v rs e = e
    by-test false v rs e = same-rec w

rec-of : (w : W) (rs : List Rec) → (with_rec w rs).rec ≡ rs
unfolding with_rec
rec-of w rs = refl

rec-again : (w : W) (rs ss : List Rec) → with_rec (with_rec w rs) ss ≡ with_rec w ss
unfolding with_rec
rec-again w rs ss = refl

-- slot by slot
fold-rec : (s : ℕ) (shown written : List ℕ) (n i : ℕ) (w : W) → fold (keep_slot s shown written) n i w ≡ with_rec w (fold (keep_rec s shown written) n i w.rec)
unfolding fold
fold-rec s shown written zero i w = same-rec w
fold-rec s shown written (suc n) i w =
    ap (fold (keep_slot s shown written) n (i + 1)) (keep-rec s shown written i w)
    ∙ fold-rec s shown written n (i + 1) (with_rec w (keep_rec s shown written i w.rec))
    ∙ rec-again w _ _ ∙ ap (λ (rs : List Rec). with_rec w (fold (keep_rec s shown written) n (i + 1) rs)) (rec-of w _)

-- the state is the one with these records
pub state-records : (x : RootWrite) (w : W) → w.rec ≡ x.recs → root_state x w ≡ with_rec w (root_records x)
unfolding root_state root_records
state-records x w e = by-number (eqb (root_number x) 0) ∙ ap (λ (rs : List Rec). with_rec w (pick (eqb (root_number x) 0) (fold (keep_rec x.s x.shown x.written) 16 0 rs) rs)) e
  where
    by-number : (b : Bool) → pick b (fold (keep_slot x.s x.shown x.written) 16 0 w) w ≡ with_rec w (pick b (fold (keep_rec x.s x.shown x.written) 16 0 w.rec) w.rec)
    by-number true = fold-rec x.s x.shown x.written 16 0 w
    by-number false = same-rec w
