-- The ways of a tick.
use Rattle.std.specs.Prelude.{ℕ, Bool, true, false, ◌≡◌}
use Rattle.state.specs.Setters.{with_session, with_locks, with_last, with_staging, with_done, with_end_at, with_parks, with_purge}
use Rattle.state.specs.declared.w.W.{W}
use Rattle.release.specs.Release.{Lending, released_state, release_all, fits, release_all_call, release_call}
use Rattle.release.specs.ReleaseLaws.{Leaves}
use Rattle.sessions.specs.Poll.{ticked, end_due, held_end, is_quiet, quietly, poll, poll_call}

module _ (x : Lending) (w : W) (clock : ℕ) (mounted : Bool) where
  pub poll-down : fits x ≡ false → Leaves (poll_call x w clock mounted) 10 0 false w x.ids
  unfolding poll_call
  poll-down e = record { answer = rw e; how = rw e; any = rw e; state = rw e; table = rw e }

-- the state as the tick finds it
module _ (x : Lending) (w : W) (clock : ℕ) (mounted : Bool) (t : W) (k : t ≡ ticked w clock mounted) where
  -- mounted again, the end is dropped, and nothing is quiet
  pub poll-dropped : fits x ≡ true → end_due t ≡ true → mounted ≡ true
      → Leaves (poll_call x w clock mounted) 0 0 false (with_end_at t 0) x.ids
  unfolding poll_call poll quietly held_end is_quiet
  poll-dropped e d m =
      record {
        answer = rw (← k, e, d, m);
        how = rw (← k, e, d, m);
        any = rw (← k, e, d, m);
        state = rw (← k, e, d, m);
        table = rw (← k, e, d, m);
      }

  -- a released session is not quiet
  pub poll-ended : fits x ≡ true → end_due t ≡ true → mounted ≡ false
      → release_all_call x (with_end_at t 0) false ≡ poll_call x w clock mounted
  unfolding poll_call poll quietly held_end is_quiet release_all_call release_all released_state with_session with_locks with_last with_staging with_done with_end_at with_parks with_purge
  poll-ended e d m = rw (← k, e, d, m)

  pub poll-quiet : fits x ≡ true → end_due t ≡ false → is_quiet t mounted ≡ true
      → release_call x t ≡ poll_call x w clock mounted
  unfolding poll_call poll quietly held_end release_call
  poll-quiet e d q = rw (← k, e, d, q)

  pub poll-kept : fits x ≡ true → end_due t ≡ false → is_quiet t mounted ≡ false
      → Leaves (poll_call x w clock mounted) 0 0 false t x.ids
  unfolding poll_call poll quietly held_end
  poll-kept e d q = record { answer = rw (← k, e, d, q); how = rw (← k, e, d, q); any = rw (← k, e, d, q); state = rw (← k, e, d, q); table = rw (← k, e, d, q) }
