-- The clock's tick, up to its quiet release (document 01; `poll`).
use Rattle.std.specs.Prelude.{ℕ, ◌-◌, Bool, false, not, ◌&&◌, ◌||◌, leb, eqb}
use Rattle.loops.specs.Loops.{pick}
use Rattle.state.specs.Queries.{quiet_ms}
use Rattle.state.specs.Setters.{with_locks, with_now_ms, with_end_at}
use Rattle.state.specs.declared.w.W.{W}
use Rattle.release.specs.Undecided.{is_undecided}
use Rattle.release.specs.Release.{Lending, lending, Ended, release_all, release, fits, turned_down}

-- the clock, which may go back; a mounted drive was locked
unfoldable pub ticked : W → ℕ → Bool → W
ticked w clock mounted = with_locks (with_now_ms w clock) (mounted || w.locks)

-- an end held back is due once the file was decided, or after 1,500 ms; waits use a subtraction that stops at 0
abbrev pub end_wait_ms : ℕ
end_wait_ms = 1500

unfoldable pub end_due : W → Bool
end_due w = not (eqb w.end_at 0) && (not (is_undecided w) || leb end_wait_ms (w.now_ms - w.end_at))

-- nothing was released
abbrev pub nothing : Lending → W → Ended
nothing x w = record { number = 0; ended = 0; had = false; w = w; ids = x.ids }

-- then the session is released; mounted again, the end is dropped
unfoldable pub held_end : Lending → W → Bool → Ended
held_end x w mounted =
    pick (end_due w) (pick mounted (nothing x (with_end_at w 0)) (release_all x (with_end_at w 0) false)) (nothing x w)

-- the quiet release after 60,000 ms: a session of a host that never locked the medium and hasn't the drive mounted
unfoldable pub is_quiet : W → Bool → Bool
is_quiet w mounted = not mounted && (w.session && (not w.locks && leb quiet_ms (w.now_ms - w.last)))

unfoldable pub quietly : Lending → Bool → Ended → Ended
quietly x mounted e =
    pick (is_quiet e.w mounted) (release (lending x.fat x.area e.ids x.starts x.sizes) e.w) e

-- `poll`
unfoldable pub poll : Lending → W → ℕ → Bool → Ended
poll x w clock mounted = quietly x mounted (held_end x (ticked w clock mounted) mounted)

-- the call: 10 for more than 400 files
unfoldable pub poll_call : Lending → W → ℕ → Bool → Ended
poll_call x w clock mounted = pick (fits x) (poll x w clock mounted) (turned_down x w 10)
