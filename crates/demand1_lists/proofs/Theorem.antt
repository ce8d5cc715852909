-- Demand 1 holds along every list of calls: every call leaves a sound state sound.
use Rattle.std.specs.Prelude.{ℕ, List, [], ◌∷◌, ◌≡◌, refl, Bool, eqb}
use Rattle.std.proofs.Common.{◌∙◌, eqb-true}
use Rattle.std.proofs.lemmas.Bool.{eqb-false}
use Rattle.loops.specs.Choices.{either, pick-has}
use Rattle.file_table.specs.Table.{Table}
use Rattle.state.specs.State.{initial}
use Rattle.state.specs.Setters.{with_rw, with_want_rw, with_locks, with_now_ms, with_end_at}
use Rattle.state.specs.declared.w.W.{W}
use Rattle.release.specs.Undecided.{is_undecided}
use Rattle.release.specs.Release.{Lending, Ended}
use Rattle.sessions.specs.Sessions.{mode_reset, set_read_only as read_only_set, start}
use Rattle.demand1.specs.Sound.{Sound}
use Rattle.demand1.proofs.Soundness.{sound-initial, sound-as}
use Rattle.demand1.proofs.Theorem.{demand1}
use Rattle.demand1_sessions.specs.Ends.{up_to400, Empty, MayEnd, clock_set, held_end_due, quiet_due, tick_ends}
use Rattle.demand1_sessions.proofs.Theorem.{demand-1-calls}
use Rattle.demand3.specs.Step.{Session, Call, write, poll, release, release_all, bus_reset, reset_mode, set_read_only, report, refused_start, sector_of, lent, step}
use Rattle.demand3.specs.History.{History, event, next, run, begun}
use Rattle.demand1_lists.specs.Along.{DoesListed, Along}

does : (t : Table) (s : Session) (c : Call) → DoesListed t s c
unfolding DoesListed
does t s (write x busy m) = demand1 (sector_of t s x busy m) s.w
does t s (poll clock mounted m) = demand-1-calls.poll (lent t s m) s.w clock mounted
does t s (release m) = demand-1-calls.release (lent t s m) s.w
does t s (release_all reset m) = demand-1-calls.release-all (lent t s m) s.w reset
does t s (bus_reset m) = demand-1-calls.bus-reset (lent t s m) s.w
does t s reset_mode = demand-1-calls.mode-reset s.w
does t s (set_read_only on) = demand-1-calls.set-read-only s.w on
does t s (report j) = demand-1-calls.report s.ids j
does t s (refused_start other e) = demand-1-calls.starts other s.w

-- an empty state has its places as the first one does
sound-empty : (v : W) → Empty v → Sound v
unfolding initial
sound-empty v e = sound-as v (initial 0) e.pair e.rec e.st (sound-initial 0)

sound-end-at : (w : W) (n : ℕ) → Sound w → Sound (with_end_at w n)
unfolding with_end_at
sound-end-at w n h = sound-as (with_end_at w n) w refl refl refl h

sound-clock : (w : W) (clock : ℕ) (mounted : Bool) → Sound w → Sound (clock_set w clock mounted)
unfolding with_locks with_now_ms
sound-clock w clock mounted h = sound-as (clock_set w clock mounted) w refl refl refl h

-- no release is due, one runs, or it is put off
data How : ℕ → Type 0 where
  none : How 0
  runs : How 1
  off : How 2

how-by : {R : Type 0} {n : ℕ} → How n → (n ≡ 0 → R) → (n ≡ 1 → R) → (n ≡ 2 → R) → R
how-by none f g h = f refl
how-by runs f g h = g refl
how-by off f g h = h refl

how-tick : (t : W) (mounted : Bool) → How (tick_ends t mounted)
unfolding tick_ends
how-tick t mounted =
    pick-has How (held_end_due t) _ _ (pick-has How mounted 0 1 none runs) (pick-has How (quiet_due t mounted) _ 0 (pick-has How (is_undecided t) 2 1 off runs) none)

-- a call that may end the session leaves the arrays as they were, or empty
sound-ends : (x : Lending) (w t still : W) (reset mode : Bool) (how : ℕ) (e : Ended) → MayEnd x w t still reset mode how e → How how
    → Sound w → Sound t → Sound still → Sound e.w
sound-ends x w t still reset mode how e m by a b c =
    either (up_to400 x)
    (λ f. how-by by
    (λ h. rw (m.idle f h).state c)
    (λ h. sound-empty e.w (m.ran f h).empty)
    (λ h. rw (m.put-off f h).state (sound-end-at t _ b)))
    (λ f. rw (m.refused (eqb-false e.number 0 (m.admitted ∙ f))).state a)

-- a start that takes its table leaves the first state, any other the one that was there
sound-start : (t : Table) (w : W) → Sound w → Sound (start t w).w
sound-start t w h =
    let s = demand-1-calls.starts t w in
    either (eqb (start t w).number 0)
    (λ q. rw (s.taken (eqb-true (start t w).number 0 q)) (sound-initial t.first))
    (λ q. rw (s.refused (eqb-false (start t w).number 0 q)).1 h)

pub sound-step : (t : Table) (c : Call) (s : Session) → Sound s.w → Sound (step t c s).after.w
unfolding step mode_reset read_only_set with_rw with_want_rw
sound-step t (write x busy m) s h = (demand1 (sector_of t s x busy m) s.w).sound h
sound-step t (poll clock mounted m) s h =
    let v = clock_set s.w clock mounted in
    let k = sound-clock s.w clock mounted h in
    sound-ends _ _ _ _ _ _ _ _ (demand-1-calls.poll (lent t s m) s.w clock mounted) (how-tick v mounted) h k
    (pick-has Sound (held_end_due v) (with_end_at v 0) v (sound-end-at v 0 k) k)
sound-step t (release m) s h = sound-ends _ _ _ _ _ _ _ _ (demand-1-calls.release (lent t s m) s.w) (pick-has How (is_undecided s.w) 2 1 off runs) h h h
sound-step t (release_all reset m) s h = sound-ends _ _ _ _ _ _ _ _ (demand-1-calls.release-all (lent t s m) s.w reset) runs h h h
sound-step t (bus_reset m) s h = sound-ends _ _ _ _ _ _ _ _ (demand-1-calls.bus-reset (lent t s m) s.w) runs h h h
sound-step t reset_mode s h = sound-as _ s.w refl refl refl h
sound-step t (set_read_only on) s h = sound-as _ s.w refl refl refl h
sound-step t (report j) s h = h
sound-step t (refused_start other e) s h = sound-start other s.w h

sound-run : (t : Table) (cs : List Call) (h : History) → Sound h.session.w → Sound (run t h cs).session.w
unfolding run event
sound-run t [] h s = s
sound-run t (c ∷ cs) h s = sound-run t cs (next t h c) (sound-step t c h.session s)

pub demand-1 : (t : Table) (cs : List Call) → Along t (run t (begun t) cs).session
demand-1 t cs =
    let s = (run t (begun t) cs).session in
    let h = sound-run t cs (begun t) (sound-initial t.first) in
    record { sound = h; does = does t s; starts = λ other. (demand-1-calls.starts other s.w, sound-start other s.w h) }
