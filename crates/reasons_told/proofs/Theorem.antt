-- What is kept up of a file is what demand 3 says: for every table and every row, call by call.
use Rattle.std.specs.Prelude.{ℕ, Bool, ◌&&◌, ◌||◌, ◌≡◌, get_or, Option, Some, None}
use Rattle.std.proofs.Math.Bool.{true, false}
use mathlib.Core.List.{List, [], ◌∷◌}
use Rattle.std.proofs.Math.Path.{refl, sym}
use Rattle.std.proofs.Common.{◌∙◌}
use Rattle.std.proofs.Math.Dec.{eqb}
use Rattle.loops.specs.Loops.{pick}
use Rattle.loops.specs.Choices.{and-no}
use Rattle.vdisk.specs.Drive.{place_of, dir_kind_of}
use Rattle.vdisk.specs.Ids.{cleared}
use Rattle.vdisk.specs.IdLaws.{id_dir-low}
use Rattle.vdisk.specs.declared.drive.Place.{Place}
use Rattle.vdisk.specs.declared.drive.Place.TheVariants.{Boot, Fat, Root, Data, Outside}
use Rattle.file_table.specs.Table.{Table, in_file}
use Rattle.state.specs.declared.w.W.{W}
use Rattle.judge.specs.Classify.{SectorWrite}
use Rattle.write.specs.Write.{whole_sectors, write as written}
use Rattle.marks.specs.Seen.{slot_in, start_in, size_in, turned_in as turned_at, turns_in, turns_at, turns_slot, zero_in, all_zero, zeroes_in, zeroes_at, zeroes_entries, stages_at, stages_name, data_names}
use Rattle.release.specs.Release.{Ended, release_all_call, release_call}
use Rattle.sessions.specs.Poll.{poll_call}
use Rattle.sessions.specs.Sessions.{bus_reset_call, report_gone}
use Rattle.demand3.specs.Step.{Session, Outcome, Medium, Sector, Call, write, poll, release, release_all, bus_reset, reset_mode, set_read_only, report, refused_start, sector_of, lent, of_ended, step}
use Rattle.demand3.specs.History.{Event, event, unmarks, since_by, since, any_of, seen, seen_in, named_now, nothing, of_staged}
use Rattle.demand3.specs.History.{turned_by, zeroed_by, staged_by, named_by, gone_by, turned_in, zeroed_in, moved_in, named_in, gone_in}
use Rattle.reasons.specs.Reasons.{no_reason, file_alone, sector_alone, after_write, after_end, after_gone}
use Rattle.reasons.specs.declared.Reason.{Reason}
use Rattle.reasons_told.specs.Told.{reason_of, when_ended, stages, after_call, Told}
use Rattle.reasons_told.proofs.VersionLaws.{version-stages}

-- the file alone, with any marks, says what its row of the table says
module _ (t : Table) (j id : ℕ) (same : cleared id ≡ cleared (get_or t.ids j 0)) where
  abbrev alone : Table
  alone = file_alone id (slot_in t j) (start_in t j) (size_in t j)

  turns-in : (s : ℕ) (shown written : List ℕ) (d : Option ℕ) → turns_in alone 0 s shown written d ≡ turns_in t j s shown written d
  unfolding turns_in turned_at
  turns-in s shown written (Some k) = rw (id_dir-low id (get_or t.ids j 0) same)
  turns-in s shown written None = refl

  turns-at : (shown written : List ℕ) (p : Place) → turns_at alone 0 shown written p ≡ turns_at t j shown written p
  unfolding turns_at
  turns-at shown written Boot = refl
  turns-at shown written (Fat s) = refl
  turns-at shown written (Root s) = refl
  turns-at shown written (Data c s) = turns-in s shown written (dir_kind_of c)
  turns-at shown written Outside = refl

  zeroes-in : (s : ℕ) (shown written : List ℕ) → zeroes_in alone 0 s shown written ≡ zeroes_in t j s shown written
  unfolding zeroes_in all_zero zero_in in_file
  zeroes-in s shown written = refl

  zeroes-at : (shown written : List ℕ) (p : Place) → zeroes_at alone 0 shown written p ≡ zeroes_at t j shown written p
  unfolding zeroes_at
  zeroes-at shown written Boot = refl
  zeroes-at shown written (Fat s) = zeroes-in s shown written
  zeroes-at shown written (Root s) = refl
  zeroes-at shown written (Data c s) = refl
  zeroes-at shown written Outside = refl

  turns-slot : (x : SectorWrite) → turns_slot alone 0 (sector_alone x.lba x.shown x.written) ≡ turns_slot t j x
  unfolding turns_slot
  turns-slot x = turns-at x.shown x.written (place_of x.lba)

  zeroes-entries : (x : SectorWrite) → zeroes_entries alone 0 (sector_alone x.lba x.shown x.written) ≡ zeroes_entries t j x
  unfolding zeroes_entries
  zeroes-entries x = zeroes-at x.shown x.written (place_of x.lba)

-- a write that was taken has whole sectors
module _ (x : SectorWrite) (w : W) where
  part-refused : whole_sectors x ≡ false → eqb (written x w).number 0 ≡ false
  unfolding written
  part-refused e = rw e

  taken-whole : (eqb (written x w).number 0 && whole_sectors (sector_alone x.lba x.shown x.written)) ≡ eqb (written x w).number 0
  unfolding whole_sectors
  taken-whole = both (eqb (written x w).number 0) (whole_sectors x) part-refused
    where
      both : (a b : Bool) → (b ≡ false → a ≡ false) → (a && b) ≡ a
      both true true f = refl
      both true false f = sym (f refl)
      both false b f = refl

-- a write that was taken moves by a name at the turn, or by one that it stages after a turn
moves-as : (k tu na st v d a b : Bool) → (k ≡ true → v ≡ st) → ((k && tu && na) || (k && (st && d) && a) || b) ≡ ((k && ((tu && na) || (v && d && a))) || b)
moves-as true tu na st v d a b e = rw (e refl)
moves-as false tu na st v d a b e = refl

-- the calls so far, of which e is the latest
module _ (t : Table) (j : ℕ) where
  abbrev reason_in : List Event → Reason
  reason_in es = record { turned = turned_in t j es; zeroed = zeroed_in t j es; moved = moved_in t j es; named = named_in t j es; gone = gone_in t j es }

  abbrev added : Event → Reason → Reason
  added e r =
      record {
        turned = turned_by t j e || r.turned;
        zeroed = zeroed_by t j e || r.zeroed;
        moved = (turned_by t j e && (seen_in t j e).named) || (staged_by t j e && r.turned) || r.moved;
        named = (named_by t j e && r.moved) || r.named;
        gone = gone_by t j e || r.gone;
      }

  latest : (e : Event) (es : List Event) → reason_in (since j (e ∷ es)) ≡ pick (unmarks j e) no_reason (added e (reason_in (since j es)))
  unfolding since_by any_of moved_in named_in
  latest e es = by (unmarks j e)
    where
      by : (b : Bool) → reason_in (pick b [] (e ∷ since j es)) ≡ pick b no_reason (added e (reason_in (since j es)))
      by true = refl
      by false = refl

  -- a call that holds nothing of the file and releases nothing
  still : (c : Call) (s : Session) (o : Outcome) (r : Reason) → o.released ≡ false → seen t j s c ≡ nothing
      → pick (unmarks j (record { call = c; before = s; out = o })) no_reason (added (record { call = c; before = s; out = o }) r) ≡ r
  still c s o r e n = rw (e, n, and-no (eqb o.number 0) false refl)

  ended : (c : Call) (s : Session) (m : Medium) (o : Ended) (r : Reason) → seen t j s c ≡ of_staged t j s.w.st m
      → pick (unmarks j (record { call = c; before = s; out = of_ended o })) no_reason (added (record { call = c; before = s; out = of_ended o }) r) ≡ when_ended t j s m o r
  unfolding after_end
  ended c s m o r n = rw (n, and-no (eqb o.number 0) false refl)

  wrote : (id : ℕ) → cleared id ≡ cleared (get_or t.ids j 0) → (x : Sector) (busy : Bool) (m : Medium) (s : Session) (r : Reason)
      → pick (unmarks j (event t (write x busy m) s)) no_reason (added (event t (write x busy m) s) r) ≡ after_call t j id s (write x busy m) r
  unfolding event step after_call after_write stages_name data_names
  wrote id e x busy m s r =
      let y = sector_of t s x busy m in
      let n = eqb (written y s.w).number 0 in
      let moves = moves-as n (turns_slot t j y) (named_now t j s.w.st m) (stages_at y s.w (place_of x.lba)) (stages s (step t (write x busy m) s)) (data_names t j x.written)
      r.turned r.moved (version-stages y s.w) in
      rw (taken-whole y s.w, turns-slot t j id e y, zeroes-entries t j id e y, and-no n false refl, moves)

  module _ (id : ℕ) (e : cleared id ≡ cleared (get_or t.ids j 0)) where
    by-call : (c : Call) (s : Session) (r : Reason) → pick (unmarks j (event t c s)) no_reason (added (event t c s) r) ≡ after_call t j id s c r
    unfolding event step after_call after_gone
    by-call (write x busy m) s r = wrote id e x busy m s r
    by-call (poll clock mounted m) s r = ended (poll clock mounted m) s m (poll_call (lent t s m) s.w clock mounted) r refl
    by-call (release m) s r = ended (release m) s m (release_call (lent t s m) s.w) r refl
    by-call (release_all reset m) s r = ended (release_all reset m) s m (release_all_call (lent t s m) s.w reset) r refl
    by-call (bus_reset m) s r = ended (bus_reset m) s m (bus_reset_call (lent t s m) s.w) r refl
    by-call reset_mode s r = still reset_mode s (step t reset_mode s) r refl refl
    by-call (set_read_only on) s r = still (set_read_only on) s (step t (set_read_only on) s) r refl refl
    by-call (report i) s r = rw (and-no (eqb (report_gone s.ids i).number 0) false refl)
    by-call (refused_start other q) s r = still (refused_start other q) s (step t (refused_start other q) s) r refl refl

  pub told : Told t j
  unfolding since_by any_of moved_in named_in
  told = record { start = refl; call = λ id e h c. latest (event t c h.session) h.trace ∙ by-call id e c h.session (reason_of t j h) }
