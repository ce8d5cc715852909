-- The calls that may end a session: each leaves ids, pairs and staging slots, or has run a release to its end.
use Rattle.std.specs.Prelude.{ℕ, Bool, true, ◌≡◌, refl, eqb}
use Rattle.std.proofs.Math.Bool.{false}
use Rattle.std.proofs.Common.{true≢false, sym, ◌∙◌}
use Rattle.loops.specs.Loops.{pick}
use Rattle.loops.specs.Choices.{pick-has, pick-by}
use Rattle.state.specs.Setters.{with_boot, with_fat1, with_rec, with_pair, with_st, with_session, with_locks, with_last, with_staging, with_done, with_end_at, with_parks, with_purge, with_rw, with_now_ms}
use Rattle.state.specs.declared.w.W.{W}
use Rattle.release.specs.Undecided.{is_undecided}
use Rattle.release.specs.Release.{Lending, Ended, released_ids, emptied, released_state, release_all, held_back, release, fits, turned_down, release_all_call, release_call}
use Rattle.sessions.specs.Poll.{ticked, end_due, nothing, held_end, is_quiet, quietly, poll, poll_call}
use Rattle.sessions.specs.Sessions.{mode_reset, bus_reset, bus_reset_call}
use Rattle.demand3.specs.History.{Clean}

pub record Stays (x : Lending) (w : W) (e : Ended) : Type 0 where
  pub ids : e.ids ≡ x.ids
  pub pair : e.w.pair ≡ w.pair
  pub st : e.w.st ≡ w.st

pub record Ran (x : Lending) (w : W) (e : Ended) : Type 0 where
  pub number : e.number ≡ 0
  pub ids : e.ids ≡ released_ids x w.st
  pub clean : Clean e.w

pub record EndsAs (x : Lending) (w : W) (e : Ended) : Type 0 where
  pub first : e.w.first ≡ w.first
  pub ran : eqb e.ended 1 ≡ true → Ran x w e
  pub stays : eqb e.ended 1 ≡ false → Stays x w e

-- nothing was released
left : (x : Lending) (w v : W) (n k : ℕ) → v.first ≡ w.first → v.pair ≡ w.pair → v.st ≡ w.st → eqb k 1 ≡ false
    → EndsAs x w (record { number = n; ended = k; had = false; w = v; ids = x.ids })
left x w v n k f p s z = record { first = f; ran = λ q. absurd (true≢false (sym q ∙ z)); stays = λ q. record { ids = refl; pair = p; st = s } }

-- a release of a state with the same staging slots
all-ends : (x : Lending) (w v : W) (reset : Bool) → v.first ≡ w.first → v.st ≡ w.st → EndsAs x w (release_all x v reset)
unfolding release_all released_state emptied with_boot with_fat1 with_rec with_pair with_st with_session with_locks with_last with_staging with_done with_end_at with_parks with_purge
all-ends x w v reset f s =
    record {
      first = f;
      ran = λ q. record { number = refl; ids = rw s; clean = record { pair = refl; rec = refl; st = refl; boot = refl; fat1 = refl } };
      stays = λ q. absurd (true≢false q);
    }

release-ends : (x : Lending) (w v : W) → v.first ≡ w.first → v.pair ≡ w.pair → v.st ≡ w.st → EndsAs x w (release x v)
unfolding release held_back with_end_at
release-ends x w v f p s =
    pick-has (EndsAs x w) (is_undecided v) (record { number = 0; ended = 2; had = false; w = held_back v; ids = x.ids }) (release_all x v false)
    (pick-has (λ (u : W). EndsAs x w (record { number = 0; ended = 2; had = false; w = u; ids = x.ids })) (eqb v.end_at 0) (with_end_at v _) v
    (left x w (with_end_at v _) 0 2 f p s refl) (left x w v 0 2 f p s refl))
    (all-ends x w v false f s)

down : (x : Lending) (w : W) → EndsAs x w (turned_down x w 10)
down x w = left x w w 10 0 refl refl refl refl

pub release_all-ends : (x : Lending) (w : W) (reset : Bool) → EndsAs x w (release_all_call x w reset)
unfolding release_all_call
release_all-ends x w reset = pick-has (EndsAs x w) (fits x) (release_all x w reset) (turned_down x w 10) (all-ends x w w reset refl refl) (down x w)

pub release_call-ends : (x : Lending) (w : W) → EndsAs x w (release_call x w)
unfolding release_call
release_call-ends x w = pick-has (EndsAs x w) (fits x) (release x w) (turned_down x w 10) (release-ends x w w refl refl refl) (down x w)

pub bus_reset-ends : (x : Lending) (w : W) → EndsAs x w (bus_reset_call x w)
unfolding bus_reset_call bus_reset mode_reset with_rw release_all
bus_reset-ends x w =
    let r = all-ends x w w true refl refl in
    pick-has (EndsAs x w) (fits x) (bus_reset x w) (turned_down x w 10)
    (record {
      first = r.first;
      ran = λ q. let a = r.ran refl in
          record { number = refl; ids = a.ids; clean = record { pair = a.clean.pair; rec = a.clean.rec; st = a.clean.st; boot = a.clean.boot; fat1 = a.clean.fat1 } };
      stays = λ q. absurd (true≢false q);
    })
    (down x w)

-- a tick: a session that was released isn't quiet, and a mounted drive is neither
module _ (x : Lending) (w : W) (mounted : Bool) where
  idle : (v : W) → v.first ≡ w.first → v.pair ≡ w.pair → v.st ≡ w.st → EndsAs x w (quietly x mounted (nothing x v))
  unfolding quietly
  idle v f p s = pick-has (EndsAs x w) (is_quiet v mounted) (release x v) (nothing x v) (release-ends x w v f p s) (left x w v 0 0 f p s refl)

  released-quiet : (v : W) → v.first ≡ w.first → v.st ≡ w.st → mounted ≡ false → EndsAs x w (quietly x mounted (release_all x v false))
  unfolding quietly is_quiet release_all released_state with_session with_locks with_last with_staging with_done with_end_at with_parks with_purge
  released-quiet v f s m = rw m (all-ends x w v false f s)

  due : (v : W) → v.first ≡ w.first → v.pair ≡ w.pair → v.st ≡ w.st → EndsAs x w (quietly x mounted (held_end x v mounted))
  unfolding held_end with_end_at
  due v f p s =
      pick-has (λ (e : Ended). EndsAs x w (quietly x mounted e)) (end_due v)
      (pick mounted (nothing x (with_end_at v 0)) (release_all x (with_end_at v 0) false)) (nothing x v)
      (pick-by (λ (e : Ended). EndsAs x w (quietly x mounted e)) mounted (nothing x (with_end_at v 0)) (release_all x (with_end_at v 0) false)
      (λ m. idle (with_end_at v 0) f p s) (λ m. released-quiet (with_end_at v 0) f s m))
      (idle v f p s)

pub poll-ends : (x : Lending) (w : W) (clock : ℕ) (mounted : Bool) → EndsAs x w (poll_call x w clock mounted)
unfolding poll_call poll ticked with_locks with_now_ms
poll-ends x w clock mounted =
    pick-has (EndsAs x w) (fits x) (poll x w clock mounted) (turned_down x w 10) (due x w mounted (ticked w clock mounted) refl refl refl) (down x w)
