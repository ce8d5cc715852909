-- Laws of the calls that may end the session: a table that doesn't fit is turned down, by 10.
use Rattle.std.specs.Prelude.{ℕ, Bool, false, ◌≡◌}
use Rattle.state.specs.declared.w.W.{W}
use Rattle.release.specs.Release.{Lending, fits, turned_down, release_call, release_all_call}
use Rattle.sessions.specs.Poll.{poll_call}
use Rattle.sessions.specs.Sessions.{bus_reset_call}

pub release-down : (x : Lending) (w : W) → fits x ≡ false → release_call x w ≡ turned_down x w 10
unfolding release_call
release-down x w e = rw e

pub release-all-down : (reset : Bool) (x : Lending) (w : W) → fits x ≡ false → release_all_call x w reset ≡ turned_down x w 10
unfolding release_all_call
release-all-down reset x w e = rw e

pub bus-reset-down : (x : Lending) (w : W) → fits x ≡ false → bus_reset_call x w ≡ turned_down x w 10
unfolding bus_reset_call
bus-reset-down x w e = rw e

pub poll-down : (clock : ℕ) (mounted : Bool) (x : Lending) (w : W) → fits x ≡ false → poll_call x w clock mounted ≡ turned_down x w 10
unfolding poll_call
poll-down clock mounted x w e = rw e
