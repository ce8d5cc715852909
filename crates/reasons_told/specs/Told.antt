-- What is kept up of a file from call to call is what demand 3 says of the calls so far.
use Rattle.std.specs.Prelude.{ℕ, Bool, not, ◌≡◌, eqb, get_or}
use Rattle.vdisk.specs.Ids.{cleared}
use Rattle.file_table.specs.Table.{Table}
use Rattle.marks.specs.Seen.{slot_in, start_in, size_in}
use Rattle.release.specs.Release.{Ended, release_all_call, release_call}
use Rattle.sessions.specs.Poll.{poll_call}
use Rattle.sessions.specs.Sessions.{bus_reset_call}
use Rattle.demand3.specs.Step.{Session, Outcome, Medium, Call, write, poll, release, release_all, bus_reset, reset_mode, set_read_only, report, refused_start, lent, step}
use Rattle.demand3.specs.History.{History, next, begun, lately, named_now, turned_in, zeroed_in, moved_in, named_in, gone_in}
use Rattle.reasons.specs.Reasons.{no_reason, after_write, after_end, after_gone}
use Rattle.reasons.specs.declared.Reason.{Reason}

-- what the calls held of row j "since the start or the release that last left it unmarked"
abbrev pub reason_of : Table → ℕ → History → Reason
reason_of t j h =
    record {
      turned = turned_in t j (lately j h);
      zeroed = zeroed_in t j (lately j h);
      moved = moved_in t j (lately j h);
      named = named_in t j (lately j h);
      gone = gone_in t j (lately j h);
    }

-- a call that may end a session, of which e is the outcome: the row's id then, and whether a sector staged before the call names the file
abbrev pub when_ended : Table → ℕ → Session → Medium → Ended → Reason → Reason
when_ended t j s m e r = after_end r e.ended (get_or e.ids j 0) (named_now t j s.w.st m)

-- the write staged its sector: the version number is another then
abbrev pub stages : Session → Outcome → Bool
stages s o = not (eqb s.w.ver o.after.w.ver)

-- after each call that meets session s; `id` is the row's id, with any marks, of which a write reads only the directory
unfoldable pub after_call : Table → ℕ → ℕ → Session → Call → Reason → Reason
after_call t j id s (write x busy m) r =
    after_write r id (slot_in t j) (start_in t j) (size_in t j) (step t (write x busy m) s).number x.lba x.shown x.written
    (named_now t j s.w.st m) (stages s (step t (write x busy m) s))
after_call t j id s (poll clock mounted m) r = when_ended t j s m (poll_call (lent t s m) s.w clock mounted) r
after_call t j id s (release m) r = when_ended t j s m (release_call (lent t s m) s.w) r
after_call t j id s (release_all reset m) r = when_ended t j s m (release_all_call (lent t s m) s.w reset) r
after_call t j id s (bus_reset m) r = when_ended t j s m (bus_reset_call (lent t s m) s.w) r
after_call t j id s reset_mode r = r
after_call t j id s (set_read_only on) r = r
after_call t j id s (report i) r = after_gone r (step t (report i) s).number i j
after_call t j id s (refused_start other e) r = r

-- nothing at the start, and then by every call after any history
pub record Told (t : Table) (j : ℕ) : Type 0 where
  pub start : reason_of t j (begun t) ≡ no_reason
  pub call : (id : ℕ) → cleared id ≡ cleared (get_or t.ids j 0) → (h : History) (c : Call)
      → reason_of t j (next t h c) ≡ after_call t j id h.session c (reason_of t j h)
