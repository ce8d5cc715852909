-- The calls that a list is made of, and one step of it: each by the definition that the call's own contract cites.
use Rattle.std.specs.Prelude.{ℕ, Bool, false, List, ◌≡◌, eqb, get_or}
use Rattle.file_table.specs.Table.{Table, accepts}
use Rattle.state.specs.declared.w.W.{W}
use Rattle.judge.specs.Classify.{SectorWrite, sector_write}
use Rattle.write.specs.Write.{Written, write as written}
use Rattle.release.specs.Release.{Lending, lending, Ended, release_all_call, release_call}
use Rattle.sessions.specs.Poll.{poll_call}
use Rattle.sessions.specs.Sessions.{Reported, Started, bus_reset_call, mode_reset, set_read_only as read_only_set, report_gone, start}

-- "Each call is given the state and the table as the last one left them": of the table only the ids change.
pub record Session : Type 0 where
  pub w : W
  pub ids : List ℕ

-- The refusal number, 0 where there is none; whether a release ran to its end in this call, or was put off; what is left.
pub record Outcome : Type 0 where
  pub number : ℕ
  pub released : Bool
  pub put_off : Bool
  pub after : Session

-- "The clock, the flags, the medium and the shown and written sectors are arbitrary"; the medium may be another at each call.
pub record Medium : Type 0 where
  pub fat : List ℕ
  pub area : List ℕ

pub record Sector : Type 0 where
  pub lba : ℕ
  pub shown : List ℕ
  pub written : List ℕ

-- "Sector writes in any order, clock ticks, releases, bus resets, read-only settings and gone reports, refused ones included"; of starts only
-- those that are refused, since one that takes its table begins a new list.
pub data Call : Type 0 where
  write : Sector → Bool → Medium → Call
  poll : ℕ → Bool → Medium → Call
  release : Medium → Call
  release_all : Bool → Medium → Call
  bus_reset : Medium → Call
  reset_mode : Call
  set_read_only : Bool → Call
  report : ℕ → Call
  refused_start : (other : Table) → accepts other ≡ false → Call

-- what each call is lent
abbrev pub sector_of : Table → Session → Sector → Bool → Medium → SectorWrite
sector_of t s x busy m = sector_write x.lba x.shown x.written busy m.fat m.area s.ids t.slots t.starts t.sizes

abbrev pub lent : Table → Session → Medium → Lending
lent t s m = lending m.fat m.area s.ids t.starts t.sizes

-- what is left of each kind of answer
abbrev pub of_written : Written → Outcome
of_written r = record { number = r.number; released = false; put_off = false; after = record { w = r.w; ids = r.ids } }

abbrev pub of_ended : Ended → Outcome
of_ended r = record { number = r.number; released = eqb r.ended 1; put_off = eqb r.ended 2; after = record { w = r.w; ids = r.ids } }

abbrev pub of_reported : Session → Reported → Outcome
of_reported s r = record { number = r.number; released = false; put_off = false; after = record { w = s.w; ids = r.ids } }

abbrev pub of_started : Session → Started → Outcome
of_started s r = record { number = r.number; released = false; put_off = false; after = record { w = r.w; ids = s.ids } }

abbrev pub of_state : Session → W → Outcome
of_state s w = record { number = 0; released = false; put_off = false; after = record { w = w; ids = s.ids } }

unfoldable pub step : Table → Call → Session → Outcome
step t (write x busy m) s = of_written (written (sector_of t s x busy m) s.w)
step t (poll clock mounted m) s = of_ended (poll_call (lent t s m) s.w clock mounted)
step t (release m) s = of_ended (release_call (lent t s m) s.w)
step t (release_all reset m) s = of_ended (release_all_call (lent t s m) s.w reset)
step t (bus_reset m) s = of_ended (bus_reset_call (lent t s m) s.w)
step t reset_mode s = of_state s (mode_reset s.w)
step t (set_read_only on) s = of_state s (read_only_set s.w on)
step t (report j) s = of_reported s (report_gone s.ids j)
step t (refused_start other e) s = of_started s (start other s.w)

abbrev pub id_of : Session → ℕ → ℕ
id_of s j = get_or s.ids j 0
