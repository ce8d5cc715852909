-- Demand 1 along every list of calls, as a statement: from a start, after any list of calls, the next call does what is listed for it. `Along`
-- says it of the session that the list left; `demand-1` in Theorem proves it for all of them.
use Rattle.std.specs.Prelude.{ℕ, Bool, true, false, not, ◌≡◌}
use Rattle.loops.specs.Loops.{pick}
use Rattle.file_table.specs.Table.{Table}
use Rattle.state.specs.Setters.{with_rw, with_want_rw, with_end_at}
use Rattle.state.specs.declared.w.W.{W}
use Rattle.release.specs.Undecided.{is_undecided}
use Rattle.release.specs.Release.{release_all_call, release_call}
use Rattle.sessions.specs.Poll.{poll_call}
use Rattle.sessions.specs.Sessions.{bus_reset_call, mode_reset, set_read_only as read_only_set, report_gone, start}
use Rattle.demand1.specs.Sound.{Sound}
use Rattle.demand1.specs.Demand1.{Demand1}
use Rattle.demand1_sessions.specs.Ends.{MayEnd, clock_set, held_end_due, tick_ends}
use Rattle.demand1_sessions.specs.Demand1.{Reports, Starts}
use Rattle.demand3.specs.Step.{Session, Medium, Call, write, poll, release, release_all, bus_reset, reset_mode, set_read_only, report, refused_start, sector_of, lent}

-- a tick of a session, where v is its state with the clock set
abbrev pub TicksListed : Table → Session → ℕ → Bool → Medium → W → Type 0
TicksListed t s clock mounted m v =
    MayEnd (lent t s m) s.w v (pick (held_end_due v) (with_end_at v 0) v) false s.w.rw (tick_ends v mounted) (poll_call (lent t s m) s.w clock mounted)

-- each call as `step` makes it, and what demand 1 says of it
unfoldable pub DoesListed : Table → Session → Call → Type 0
DoesListed t s (write x busy m) = Demand1 (sector_of t s x busy m) s.w
DoesListed t s (poll clock mounted m) = TicksListed t s clock mounted m (clock_set s.w clock mounted)
DoesListed t s (release m) =
    MayEnd (lent t s m) s.w s.w s.w false s.w.rw (pick (is_undecided s.w) 2 1) (release_call (lent t s m) s.w)
DoesListed t s (release_all reset m) = MayEnd (lent t s m) s.w s.w s.w reset s.w.rw 1 (release_all_call (lent t s m) s.w reset)
DoesListed t s (bus_reset m) = MayEnd (lent t s m) s.w s.w s.w true s.w.want_rw 1 (bus_reset_call (lent t s m) s.w)
DoesListed t s reset_mode = mode_reset s.w ≡ with_rw s.w s.w.want_rw
DoesListed t s (set_read_only on) = read_only_set s.w on ≡ with_want_rw s.w (not on)
DoesListed t s (report j) = Reports s.ids j (report_gone s.ids j)
DoesListed t s (refused_start other e) = Starts other s.w (start other s.w)

pub record Along (t : Table) (s : Session) : Type 0 where
  -- what `Demand1` asks of the state where it says what a FAT, root or staged sector sets
  pub sound : Sound s.w
  pub does : (c : Call) → DoesListed t s c
  -- a start, be its table taken or not, and the state that it leaves
  pub starts : (other : Table) → Starts other s.w (start other s.w) × Sound (start other s.w).w
