-- Demand 3: for every table that a start takes, every list of calls and every row.
use Rattle.std.specs.Prelude.{ℕ, ◌%◌, ◌<◌, Bool, true, ◌&&◌, ◌||◌, List, [], ◌∷◌, ◌≡◌, leb, ltb, eqb, length, get_or}
use Rattle.std.proofs.Math.Bool.{false, So}
use Rattle.std.proofs.lemmas.Bool.{false≢true, eqb-false}
use Rattle.std.proofs.Math.Path.{refl, sym}
use Rattle.std.proofs.Common.{◌∙◌, ap, arith, length-set, get_or-set_same, get_or-set_other, ltb-true, eqb-true}
use Rattle.std.proofs.Math.ListN.{set}
use Rattle.loops.specs.Loops.{pick}
use Rattle.loops.specs.Choices.{either, pick-by, pick-has, and-0, and-no, or-r}
use Rattle.bits.specs.Bit.{set_bit}
use Rattle.vdisk.specs.Ids.{turned, freed, gone, moved, handed, unmarked}
use Rattle.vdisk.specs.IdLaws.{set-low}
use Rattle.file_table.specs.Table.{Table, max_files, accepts}
use Rattle.file_table.specs.Accepted.{accepted, row-unmarked}
use Rattle.state.specs.Setters.{with_rw, with_want_rw}
use Rattle.marks.specs.Seen.{turns_slot, zeroes_entries, stages_name}
use Rattle.marks.proofs.DoesLaws.{same-bit, lower-bit, upper-bit}
use Rattle.marks.specs.Kept.{Kept}
use Rattle.marks.proofs.KeptLaws.{kept-as, kept-start}
use Rattle.marks.proofs.WriteMarks.{moves_file, OnTable, write-marks, write-kept}
use Rattle.write.specs.Write.{write as written}
use Rattle.release.specs.Release.{Ended}
use Rattle.sessions.specs.Sessions.{Reported, mode_reset, set_read_only as read_only_set, report_gone, start}
use Rattle.demand3.specs.Step.{Session, Outcome, Medium, Sector, Call, write, poll, release, release_all, bus_reset, reset_mode, set_read_only, report, refused_start, sector_of, lent, of_ended, of_reported, step, id_of}
use Rattle.demand3.specs.History.{Event, seen, named_now, of_staged, event, run, next, begun, since_by, lately, Clean, History, Each, none, more, Demand3}
use Rattle.demand3.proofs.Induct.{Effect, held-on, Told, told-run, told-none, told-demand}
use Rattle.demand3.proofs.EndLaws.{EndsAs, release_all-ends, release_call-ends, bus_reset-ends, poll-ends}
use Rattle.demand3.proofs.Releases.{release-effect, release-settles, release-kept}

abbrev pub Good : Table → Session → Type 0
Good t s = Kept t s.ids s.w

or-mid : (a b c : Bool) → (a || c) ≡ true → (a || b || c) ≡ true
or-mid true b c e = refl
or-mid false true c e = refl
or-mid false false c e = e

-- a call that leaves the ids and holds nothing of the file
still : (t : Table) (j : ℕ) (c : Call) (s : Session) (o : Outcome) → o.after.ids ≡ s.ids → (seen t j s c).turned ≡ false → (seen t j s c).zeroed ≡ false
    → (seen t j s c).gone ≡ false → o.released ≡ false → Effect t j (record { call = c; before = s; out = o })
still t j c s o e tu ze re ran =
    let taken = eqb o.number 0 in
    let i : id_of o.after j ≡ id_of s j = rw e in
    record {
      turn = λ u. ap turned i ∙ sym (rw (and-no taken (seen t j s c).turned tu));
      free = λ u p. or-mid (taken && (seen t j s c).zeroed) (o.released && (seen t j s c).named && moved (id_of s j)) (freed (id_of s j))
          (rw (and-no taken (seen t j s c).zeroed ze) (sym (ap freed i) ∙ p));
      keep = λ u p. ap freed i ∙ (rw (and-no taken (seen t j s c).zeroed ze) at p);
      left = λ u. ap gone i ∙ sym (rw (and-no taken (seen t j s c).gone re));
      move = λ u p. or-r ((taken && (seen t j s c).turned && (seen t j s c).named) || (taken && (seen t j s c).staged && turned (id_of s j))) (moved (id_of s j)) (sym (ap moved i) ∙ p);
      hold = λ h. rw ran;
    }

-- a report of row i
module _ (t : Table) (s : Session) (k : Good t s) (i : ℕ) where
  set-row : (j : ℕ) → i < length s.ids → get_or (set s.ids i (set_bit (id_of s i) 14)) j 0 ≡ pick (eqb i j) (set_bit (id_of s j) 14) (id_of s j)
  set-row j l =
      pick-by (λ (x : ℕ). get_or (set s.ids i (set_bit (id_of s i) 14)) j 0 ≡ x) (eqb i j) (set_bit (id_of s j) 14) (id_of s j)
      (λ e. rw (← eqb-true i j e) (get_or-set_same s.ids i (set_bit (id_of s i) 14) 0 l))
      (λ e. get_or-set_other s.ids i j (set_bit (id_of s i) 14) 0 (λ q. eqb-false i j e (sym q)))

  abbrev in_table : Bool
  in_table = ltb i (length s.ids) && handed (id_of s i)

  report-by : (P : Reported → Type 0) → (i < length s.ids → P (record { number = 0; ids = set s.ids i (set_bit (id_of s i) 14) }))
      → P (record { number = 21; ids = s.ids }) → P (record { number = 10; ids = s.ids }) → P (report_gone s.ids i)
  unfolding report_gone
  report-by P f g h =
      pick-has P (leb (length s.ids) max_files)
      (pick in_table (record { number = 0; ids = set s.ids i (set_bit (id_of s i) 14) }) (record { number = 21; ids = s.ids })) (record { number = 10; ids = s.ids })
      (pick-by P in_table (record { number = 0; ids = set s.ids i (set_bit (id_of s i) 14) }) (record { number = 21; ids = s.ids })
      (λ e. f (ltb-true i (length s.ids) (and-0 (ltb i (length s.ids)) (handed (id_of s i)) e))) (λ e. g))
      h

  report-kept : Kept t (report_gone s.ids i).ids s.w
  report-kept =
      report-by (λ r. Kept t r.ids s.w)
      (λ l. record {
        rows = length-set s.ids i (set_bit (id_of s i) 14) ∙ k.rows;
        first = k.first;
        names = λ j q. ap (λ (n : ℕ). n % 4096) (set-row j l)
            ∙ pick-has (λ (x : ℕ). x % 4096 ≡ get_or t.ids j 0 % 4096) (eqb i j) (set_bit (id_of s j) 14) (id_of s j) (set-low (id_of s j) 14 (omega arith) ∙ k.names j q) (k.names j q);
        pairs = λ p j o. ap freed (set-row j l) ∙ lower-bit (eqb i j) (id_of s j) 14 13 (omega arith) ∙ k.pairs p j o;
        slots = λ p j o. ap freed (set-row j l) ∙ lower-bit (eqb i j) (id_of s j) 14 13 (omega arith) ∙ k.slots p j o;
      }) k k

  report-effect : (j : ℕ) → Effect t j (record { call = report i; before = s; out = of_reported s (report_gone s.ids i) })
  report-effect j =
      report-by (λ r. Effect t j (record { call = report i; before = s; out = of_reported s r }))
      (λ l. let at = set-row j l in
      record {
        turn = λ u. ap turned at ∙ lower-bit (eqb i j) (id_of s j) 14 12 (omega arith);
        free = λ u p. sym (ap freed at ∙ lower-bit (eqb i j) (id_of s j) 14 13 (omega arith)) ∙ p;
        keep = λ u p. ap freed at ∙ lower-bit (eqb i j) (id_of s j) 14 13 (omega arith) ∙ p;
        left = λ u. ap gone at ∙ same-bit (eqb i j) (id_of s j) 14;
        move = λ u p. sym (ap moved at ∙ upper-bit (eqb i j) (id_of s j) 14 15 (omega arith)) ∙ p;
        hold = λ h. refl;
      })
      (record { turn = λ u. refl; free = λ u p. p; keep = λ u p. p; left = λ u. refl; move = λ u p. p; hold = λ h. refl })
      (record { turn = λ u. refl; free = λ u p. p; keep = λ u p. p; left = λ u. refl; move = λ u p. p; hold = λ h. refl })

-- a call that may have ended the session
module _ (t : Table) (s : Session) (k : Good t s) (m : Medium) (e : Ended) (a : EndsAs (lent t s m) s.w e) where
  ended-kept : Kept t e.ids e.w
  ended-kept =
      either (eqb e.ended 1)
      (λ q. let r = a.ran q in release-kept t s m k e.ids e.w r.ids a.first r.clean)
      (λ q. let r = a.stays q in rw r.ids (kept-as t s.ids s.w e.w k a.first r.pair r.st))

  ended-effect : (c : Call) (j : ℕ) → j < length t.ids → seen t j s c ≡ of_staged t j s.w.st m
      → Effect t j (record { call = c; before = s; out = of_ended e })
  ended-effect c j l is =
      either (eqb e.ended 1)
      (λ q. let r = a.ran q in
      release-effect t s m k j l (record { call = c; before = s; out = of_ended e }) refl q r.ids
      (rw is (and-no (eqb e.number 0) false refl)) (rw is (and-no (eqb e.number 0) false refl)) (rw (q, is)) (rw is (and-no (eqb e.number 0) false refl)))
      (λ q. let r = a.stays q in still t j c s (of_ended e) r.ids (rw is) (rw is) (rw is) q)

  ended-settled : (j : ℕ) → j < length t.ids → So (eqb e.ended 1) → So (handed (get_or e.ids j 0) || unmarked (get_or e.ids j 0))
  ended-settled j l q = release-settles t s m k j l e.ids (a.ran q).ids

and-swap : (a b : Bool) → (a && b) ≡ (b && a)
and-swap true true = refl
and-swap true false = refl
and-swap false true = refl
and-swap false false = refl

-- a write that was taken moves by a name at the turn, or by one that it stages after a turn
moves-as : (n a b c d m : Bool) → ((n && ((a && b) || (c && d))) || m) ≡ ((n && a && b) || (n && d && c) || m)
moves-as true a b c d m = rw (and-swap c d)
moves-as false a b c d m = refl

-- a write
module _ (t : Table) (fine : accepts t ≡ true) (s : Session) (k : Good t s) (x : Sector) (busy : Bool) (m : Medium) where
  on : OnTable t (sector_of t s x busy m)
  on = record { slots = refl; starts = refl; sizes = refl }

  write-effect : (j : ℕ) → j < length t.ids → Effect t j (event t (write x busy m) s)
  unfolding event step moves_file
  write-effect j l =
      let y = sector_of t s x busy m in
      let d = write-marks t fine (sector_of t s x busy m) on s.w k j l in
      let n = (written (sector_of t s x busy m) s.w).number in
      record {
        turn = λ u. d.turn;
        free = λ u p. or-mid (eqb n 0 && zeroes_entries t j (sector_of t s x busy m)) false (freed (id_of s j)) (sym d.free ∙ p);
        keep = λ u p. d.free ∙ p;
        left = λ u. d.left ∙ sym (rw (and-no (eqb n 0) false refl));
        hold = λ h. refl;
        move = λ u p. sym (d.move ∙ moves-as (eqb n 0) (turns_slot t j y) (named_now t j s.w.st m) (turned (id_of s j)) (stages_name t j y s.w) (moved (id_of s j))) ∙ p;
      }

module _ (t : Table) (fine : accepts t ≡ true) where
  -- a refused start leaves the state
  start-kept : (s : Session) → Good t s → (other : Table) → accepts other ≡ false → Kept t s.ids (start other s.w).w
  unfolding start
  start-kept s k other e = rw e k

  pub good : (c : Call) (s : Session) → Good t s → Good t (event t c s).out.after
  unfolding event step mode_reset read_only_set with_rw with_want_rw
  good (write x busy m) s k = write-kept t fine (sector_of t s x busy m) (on t fine s k x busy m) s.w k
  good (poll clock mounted m) s k = ended-kept t s k m _ (poll-ends (lent t s m) s.w clock mounted)
  good (release m) s k = ended-kept t s k m _ (release_call-ends (lent t s m) s.w)
  good (release_all reset m) s k = ended-kept t s k m _ (release_all-ends (lent t s m) s.w reset)
  good (bus_reset m) s k = ended-kept t s k m _ (bus_reset-ends (lent t s m) s.w)
  good reset_mode s k = kept-as t s.ids s.w _ k refl refl refl
  good (set_read_only on) s k = kept-as t s.ids s.w _ k refl refl refl
  good (report i) s k = report-kept t s k i
  good (refused_start other e) s k = start-kept s k other e

  pub effect : (c : Call) (s : Session) → Good t s → (j : ℕ) → j < length t.ids → Effect t j (event t c s)
  unfolding event step
  effect (write x busy m) s k j l = write-effect t fine s k x busy m j l
  effect (poll clock mounted m) s k j l = ended-effect t s k m _ (poll-ends (lent t s m) s.w clock mounted) (poll clock mounted m) j l refl
  effect (release m) s k j l = ended-effect t s k m _ (release_call-ends (lent t s m) s.w) (release m) j l refl
  effect (release_all reset m) s k j l = ended-effect t s k m _ (release_all-ends (lent t s m) s.w reset) (release_all reset m) j l refl
  effect (bus_reset m) s k j l = ended-effect t s k m _ (bus_reset-ends (lent t s m) s.w) (bus_reset m) j l refl
  effect reset_mode s k j l = still t j reset_mode s _ refl refl refl refl refl
  effect (set_read_only on) s k j l = still t j (set_read_only on) s _ refl refl refl refl refl
  effect (report i) s k j l = report-effect t s k i j
  effect (refused_start other e) s k j l = still t j (refused_start other e) s _ refl refl refl refl refl

  -- what every list of calls tells of a row
  pub told : (cs : List Call) (j : ℕ) → j < length t.ids → Told t j (id_of (run t (begun t) cs).session j) (lately j (run t (begun t) cs))
  unfolding since_by
  told cs j l =
      told-run t (Good t) good effect j l cs (begun t) (kept-start t) (told-none t j (get_or t.ids j 0) (row-unmarked t (accepted t fine) j l))

-- a completed release leaves nothing of the session, whichever call led to it
pub demand-3-clean : (t : Table) (c : Call) (s : Session) → So (step t c s).released → Clean (step t c s).after.w
unfolding step
demand-3-clean t (write x busy m) s e = absurd (false≢true e)
demand-3-clean t (poll clock mounted m) s e = ((poll-ends (lent t s m) s.w clock mounted).ran e).clean
demand-3-clean t (release m) s e = ((release_call-ends (lent t s m) s.w).ran e).clean
demand-3-clean t (release_all reset m) s e = ((release_all-ends (lent t s m) s.w reset).ran e).clean
demand-3-clean t (bus_reset m) s e = ((bus_reset-ends (lent t s m) s.w).ran e).clean
demand-3-clean t reset_mode s e = absurd (false≢true e)
demand-3-clean t (set_read_only on) s e = absurd (false≢true e)
demand-3-clean t (report i) s e = absurd (false≢true e)
demand-3-clean t (refused_start other q) s e = absurd (false≢true e)

-- and each row handed or unmarked
demand-3-settled : (t : Table) (c : Call) (s : Session) → Good t s → (j : ℕ) → j < length t.ids → So (step t c s).released
    → So (handed (id_of (step t c s).after j) || unmarked (id_of (step t c s).after j))
unfolding step
demand-3-settled t (write x busy m) s k j l e = absurd (false≢true e)
demand-3-settled t (poll clock mounted m) s k j l e = ended-settled t s k m _ (poll-ends (lent t s m) s.w clock mounted) j l e
demand-3-settled t (release m) s k j l e = ended-settled t s k m _ (release_call-ends (lent t s m) s.w) j l e
demand-3-settled t (release_all reset m) s k j l e = ended-settled t s k m _ (release_all-ends (lent t s m) s.w reset) j l e
demand-3-settled t (bus_reset m) s k j l e = ended-settled t s k m _ (bus_reset-ends (lent t s m) s.w) j l e
demand-3-settled t reset_mode s k j l e = absurd (false≢true e)
demand-3-settled t (set_read_only on) s k j l e = absurd (false≢true e)
demand-3-settled t (report i) s k j l e = absurd (false≢true e)
demand-3-settled t (refused_start other q) s k j l e = absurd (false≢true e)

-- what holds of each call holds of a whole list
each-run : (t : Table) → accepts t ≡ true → (P : Event → Type 0) → ((c : Call) (s : Session) → Good t s → P (event t c s)) → (cs : List Call) (h : History)
    → Good t h.session → Each P h.trace → Each P (run t h cs).trace
unfolding run event
each-run t fine P p [] h g k = k
each-run t fine P p (c ∷ cs) h g k = each-run t fine P p cs (next t h c) (good t fine c h.session g) (more (p c h.session g) k)

pub demand-3 : (t : Table) → accepts t ≡ true → (cs : List Call) → Demand3 t (run t (begun t) cs)
unfolding event
demand-3 t fine cs =
    record {
      safe = λ j l. (told-demand t j (run t (begun t) cs) (told t fine cs j l)).safe;
      present = λ j l. (told-demand t j (run t (begun t) cs) (told t fine cs j l)).present;
      complete = λ j l. (told-demand t j (run t (begun t) cs) (told t fine cs j l)).complete;
      held = λ j l. each-run t fine _ (λ c s k. held-on t j (event t c s) (effect t fine c s k j l)) cs (begun t) (kept-start t) none;
      clean = each-run t fine _ (λ c s k. demand-3-clean t c s) cs (begun t) (kept-start t) none;
      settled = λ j l. each-run t fine _ (λ c s k. demand-3-settled t c s k j l) cs (begun t) (kept-start t) none;
    }
