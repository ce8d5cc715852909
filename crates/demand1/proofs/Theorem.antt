-- Demand 1 holds of every sector write and every state.
use Rattle.std.specs.Prelude.{ℕ, Bool, true, not, ◌&&◌, ◌||◌, List, ◌≡◌, length, Option, Some, None}
use Rattle.std.proofs.Math.Bool.{false}
use Rattle.std.proofs.Math.Path.{refl, ap}
use Rattle.std.proofs.Common.{sym, ◌∙◌, arith}
use Rattle.std.proofs.Math.Dec.{eqb}
use borrow.Author.Tests.{eqb-true, eq-eqb, ne_eqb, not-false}
use Rattle.loops.specs.Choices.{either, pick-by, and-1}
use Rattle.loops.specs.Loops.{pick}
use Rattle.vdisk.specs.Drive.{place_of, dir_kind_of}
use Rattle.vdisk.specs.declared.drive.Place.{Place}
use Rattle.vdisk.specs.declared.drive.Place.TheVariants.{Boot, Fat, Root, Data, Outside}
use Rattle.state.specs.Setters.{with_boot, with_fat1, with_pair, with_rec, with_st, with_staging, with_stage_t, with_hint, with_ver, with_session, with_last, with_err, with_n}
use Rattle.records.specs.declared.Rec.{Rec}
use Rattle.state.specs.declared.w.Pair.{Pair}
use Rattle.state.specs.declared.w.St.{St}
use Rattle.state.specs.declared.w.W.{W}
use Rattle.judge.specs.Classify.{SectorWrite, Outcome, refused, classify}
use Rattle.write.specs.Write.{Written, taken_state, error_of, refused_state, settled_state, settled, unjudged, whole_sectors, table_fits, write}
use Rattle.admits.specs.Admits.{is_host, as_shown, as_parked, slot_before}
use Rattle.admits.proofs.AdmitLaws.{write-pass}
use Rattle.admits.proofs.RefusalLaws.{write-number}
use Rattle.opens.specs.Opens.{unchanged_in, unchanged_at, dates_in, dates_at, opens_at, opens}
use Rattle.opens.proofs.OpenLaws.{write-opens}
use Rattle.demand1.specs.StageChanges.{staging_state}
use Rattle.demand1.specs.Changes.{Taken, InCluster, AtPlace}
use Rattle.demand1.specs.Demand1.{is_listed, claimed_state, error_for, counts_for, left_state, Refused, Demand1}
use Rattle.demand1.proofs.Fair.{Fair, fair-refused}
use Rattle.demand1.proofs.Soundness.{sound-write}
use Rattle.demand1.proofs.Judged.{judged}

neither : (a b : Bool) → not (a || b) ≡ true → a ≡ false
neither true b e = sym e
neither false b e = refl

-- what a refusal leaves in the error and the counts
errs : (u : W) (lba n : ℕ) → refused_state u lba n ≡ with_n (with_err u (error_for n)) (counts_for u.n lba n)
unfolding refused_state error_of error_for counts_for
errs u lba n =
    either (eqb n 19)
    (λ e. let z = eqb-true n 19 e in rw z)
    (λ e. rw e (either (eqb n 2 || eqb n 17) (λ q. rw q) (λ q. rw q)))

module _ (x : SectorWrite) (w : W) where
  abbrev place : Place
  place = place_of x.lba

  -- what a refused sector keeps of the state
  kept : {A : Type 0} (get : W → A) → ((u : W) (n : ℕ) → get (refused_state u x.lba n) ≡ get u)
      → get (claimed_state x w place) ≡ get w → (o : Outcome) → Fair x w (claimed_state x w place) o → (o.number ≡ 0 → ⊥) → get (settled_state x.lba o) ≡ get w
  unfolding settled_state
  kept get r g o f h =
      rw (ne_eqb o.number 0 h) (r o.w o.number
      ∙ ap get (f.state h)
      ∙ pick-by (λ u. get u ≡ get w) (eqb o.number 17 || eqb o.number 18) (claimed_state x w place) w (λ e. g) (λ e. refl))

  left : (o : Outcome) → Fair x w (claimed_state x w place) o → (o.number ≡ 0 → ⊥) → settled_state x.lba o ≡ left_state x w o.number
  unfolding settled_state left_state claimed_state staging_state with_hint with_stage_t with_staging with_st
  left o f h =
      rw (ne_eqb o.number 0 h, f.judged)
      (either (eqb o.number 17 || eqb o.number 18)
      (λ e. let s : o.w ≡ claimed_state x w place = rw e at (f.state h) in
      rw (e, s) (errs (claimed_state x w place) x.lba o.number))
      (λ e. let s : o.w ≡ w = rw e at (f.state h) in rw (e, s) (errs w x.lba o.number)))

  put-off : (o : Outcome) → Fair x w (claimed_state x w place) o → (o.number ≡ 0 → ⊥) → o.number ≡ 19
      → (settled_state x.lba o).n.last_refused ≡ w.n.last_refused
  unfolding settled_state refused_state with_n with_err
  put-off o f h e =
      let s : o.w ≡ w = rw e at (f.state h) in
      rw e (ap (λ (u : W). u.n.last_refused) s)

  refused-by : (o : Outcome) → Fair x w (claimed_state x w place) o → (o.number ≡ 0 → ⊥) → Refused x w (settled x o)
  unfolding refused_state claimed_state staging_state with_n with_err with_st with_staging with_stage_t with_hint
  refused-by o f h =
      record {
        ids = f.ids h;
        area = f.area h;
        pair = kept (λ u. u.pair) (λ u n. refl) refl o f h;
        rec = kept (λ u. u.rec) (λ u n. refl) refl o f h;
        fat1 = kept (λ u. u.fat1) (λ u n. refl) refl o f h;
        boot = kept (λ u. u.boot) (λ u n. refl) refl o f h;
        state = left o f h;
        put-off = put-off o f h;
      }

  record Held (r : Written) : Type 0 where
    listed : is_listed r.number ≡ true
    refused : (r.number ≡ 0 → ⊥) → Refused x w r
    taken : r.number ≡ 0 → (r ≡ settled x (classify x w)) × (length x.written ≡ 512)

  unjudged-1 : Held (unjudged x w 1)
  unfolding is_listed left_state
  unjudged-1 =
      record {
        listed = refl;
        refused = λ h. record { ids = refl; area = refl; pair = refl; rec = refl; fat1 = refl; boot = refl; state = refl; put-off = λ e. refl };
        taken = λ e. absurd (omega arith);
      }

  unjudged-10 : Held (unjudged x w 10)
  unfolding is_listed left_state
  unjudged-10 =
      record {
        listed = refl;
        refused = λ h. record { ids = refl; area = refl; pair = refl; rec = refl; fat1 = refl; boot = refl; state = refl; put-off = λ e. refl };
        taken = λ e. absurd (omega arith);
      }

  wide : not (whole_sectors x) ≡ false → length x.written ≡ 512
  unfolding whole_sectors
  wide e =
      eqb-true (length x.written) 512
      (and-1 (eqb (length x.shown) 512) (eqb (length x.written) 512)
      (not-false (eqb (length x.shown) 512 && eqb (length x.written) 512) e))

  held : Held (write x w)
  unfolding write is_listed classify
  held =
      pick-by Held (not (whole_sectors x)) (unjudged x w 1) _ (λ e. unjudged-1)
      (λ e. pick-by Held (not (table_fits x w)) (unjudged x w 10) _ (λ t. unjudged-10)
      (λ t. pick-by Held (not w.rw) (settled x (refused x w 12)) (settled x (classify x w))
      (λ q. record {
        listed = refl;
        refused = refused-by (refused x w 12) (fair-refused x w (claimed_state x w place) 12 (refl, refl, refl));
        taken = λ n. absurd (omega arith);
      })
      (λ q. let j = judged x w (wide e) (place_of x.lba) in
      record { listed = j.fair.listed; refused = refused-by (classify x w) j.fair; taken = λ n. (refl, wide e) })))

  number : (write x w).number ≡ 0 → (classify x w).number ≡ 0
  number n = rw (held.taken n).0 at n

  -- what `classify` leaves keeps the session flag, the clock and the counts
  module _ {A : Type 0} (get : W → A) (boot : (b : ℕ) → get (with_boot w b) ≡ get w)
      (fat : (ps : List Pair) (ss : List St) (n : ℕ) → get (with_fat1 (with_pair (with_st w ss) ps) n) ≡ get w) (rec : (rs : List Rec) → get (with_rec w rs) ≡ get w)
      (stage : (ss : List St) (hint ver : ℕ) → get (with_ver (staging_state w ss hint) ver) ≡ get w) where
    kept-in : (o : Outcome) (c s : ℕ) (d : Option ℕ) → not (unchanged_in x w c s d || dates_in x d) ≡ true → InCluster x w c s o d → get o.w ≡ get w
    unfolding unchanged_in InCluster
    kept-in o c s (Some k) e a = ap get (a (neither (as_shown x) (dates_in x (Some k)) e)).state
    kept-in o c s None e a =
        let q = neither (pick (is_host x w c) (as_parked x (slot_before w c) s) (as_shown x)) (dates_in x None) e in
        either (is_host x w c)
        (λ h. ap get (a.0 h (rw h at q)).state ∙ stage _ _ _)
        (λ h. absurd (a.1 h (rw h at q)))

    kept-at : (o : Outcome) (p : Place) → opens_at x w p ≡ true → AtPlace x w o p → get o.w ≡ get w
    unfolding opens_at unchanged_at dates_at AtPlace
    kept-at o Boot e a = ap get (a (neither (as_shown x) false e)).state ∙ boot _
    kept-at o (Fat s) e a = ap get (a (neither (as_shown x) false e)).state ∙ fat _ _ _
    kept-at o (Root s) e a = ap get (a (neither (as_shown x) (dates_at x (Root s)) e)).state ∙ rec _
    kept-at o (Data c s) e a = kept-in o c s (dir_kind_of c) e a
    kept-at o Outside e a = absurd a

    kept-by : (write x w).number ≡ 0 → get (classify x w).w ≡ get w
    unfolding classify opens
    kept-by n =
        let j = judged x w (held.taken n).1 place in
        either (opens x w)
        (λ e. kept-at (classify x w) place e (j.changes (number n)))
        (λ e. ap get (j.unchanged (number n) (write-opens x w n ∙ e)).state)

  taken-by : (write x w).number ≡ 0 → Taken x w (write x w) (classify x w)
  unfolding settled_state taken_state staging_state with_boot with_fat1 with_pair with_rec with_st with_ver with_hint with_stage_t with_staging with_n with_session with_last
  taken-by n =
      let e = (held.taken n).0 in
      let o = classify x w in
      let clock = kept-by (λ u. u.now_ms) (λ b. refl) (λ ps ss k. refl) (λ rs. refl) (λ ss h v. refl) n in
      let flag = kept-by (λ u. u.session) (λ b. refl) (λ ps ss k. refl) (λ rs. refl) (λ ss h v. refl) n in
      let counts = kept-by (λ u. u.n) (λ b. refl) (λ ps ss k. refl) (λ rs. refl) (λ ss h v. refl) n in
      let s : (write x w).w ≡ taken_state o.w (opens x w) =
      ap (λ (r : Written). r.w) e ∙ rw (eq-eqb o.number 0 (number n)) (ap (taken_state o.w) (write-opens x w n)) in
      let m : (write x w).w.n ≡ (taken_state o.w (opens x w)).n = ap (λ (u : W). u.n) s in
      record {
        state = rw m (s ∙ rw (clock, flag));
        counts = rw (m, counts) (record { ok = refl; refused = refl; busy = refl; last_refused = refl; deleted = refl; fw_ok = refl; fw_bad = refl });
        ids = ap (λ (r : Written). r.ids) e;
        area = ap (λ (r : Written). r.area) e;
      }

  pub demand1 : Demand1 x w
  unfolding classify
  demand1 =
      record {
        admitted = write-pass x w;
        number = write-number x w;
        listed = held.listed;
        refused = held.refused;
        taken = taken-by;
        unchanged = λ n q. (judged x w (held.taken n).1 (place_of x.lba)).unchanged (number n) (write-opens x w n ∙ q);
        changed = λ n. (judged x w (held.taken n).1 (place_of x.lba)).changes (number n);
        sound = λ h. sound-write x w h;
      }
