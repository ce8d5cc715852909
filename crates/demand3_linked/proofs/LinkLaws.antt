-- Laws of linked calls: over what a firmware lends, a call does what its step does to the session.
use Rattle.std.specs.Prelude.{ℕ, suc, Bool, ◌≡◌, refl, length}
use Rattle.std.proofs.Math.Nat.{suc_inj}
use mathlib.Core.List.{List, [], ◌∷◌, map, reverse_aux}
use Rattle.std.proofs.Math.Path.{ap}
use Rattle.std.proofs.Common.{◌∙◌, arith}
use Rattle.file_table.specs.Table.{Table, columns}
use Rattle.file_table.specs.declared.VF.{VF}
use Rattle.file_table.specs.Files.{id_of, dir_slot_of, start_of, size_of, with_id, with_ids}
use Rattle.state.specs.declared.w.W.{W}
use Rattle.write.specs.Write.{Written, files_written, write as written}
use Rattle.release.specs.Release.{Lending, Ended, release_all_call, release_call}
use Rattle.sessions.specs.Poll.{poll_call}
use Rattle.sessions.specs.Sessions.{Reported, Started, bus_reset_call, mode_reset, set_read_only as read_only_set, report_gone, start}
use Rattle.release.specs.Release.{files_lending, end_answer, EndsBy}
use Rattle.release.specs.Release.{EndAnswer}
use Rattle.demand3.specs.Step.{Session, Outcome, Medium, Sector, Call, write, poll, release, release_all, bus_reset, reset_mode, set_read_only, report, refused_start, sector_of, lent, of_ended, step}
use Rattle.demand3.specs.History.{History, event, next, run}
use Rattle.demand3_linked.specs.Linked.{Lent, Answer, Ensures, Result, numbered, end_result, result_of, Linked, none, more, result_by, results_in}
use Rattle.demand3_linked.proofs.RowLaws.{write-rows, release-rows, release_all-rows, bus_reset-rows, poll-rows, report-rows}

-- ids that are set are the ids; every other column stays
pub ids-set : (fs : List VF) (ns : List ℕ) → length ns ≡ length fs → map id_of (with_ids fs ns) ≡ ns
ids-set [] [] e = refl
ids-set [] (n ∷ ns) e = absurd (omega arith)
ids-set (f ∷ fs) [] e = absurd (omega arith)
ids-set (f ∷ fs) (n ∷ ns) e = ap (λ (ms : List ℕ). n ∷ ms) (ids-set fs ns (suc_inj e))

pub slots-stay : (fs : List VF) (ns : List ℕ) → map dir_slot_of (with_ids fs ns) ≡ map dir_slot_of fs
slots-stay [] ns = refl
slots-stay (f ∷ fs) [] = refl
slots-stay (f ∷ fs) (n ∷ ns) = ap (λ (ms : List ℕ). f.slot ∷ ms) (slots-stay fs ns)

pub starts-stay : (fs : List VF) (ns : List ℕ) → map start_of (with_ids fs ns) ≡ map start_of fs
starts-stay [] ns = refl
starts-stay (f ∷ fs) [] = refl
starts-stay (f ∷ fs) (n ∷ ns) = ap (λ (ms : List ℕ). f.vstart ∷ ms) (starts-stay fs ns)

pub sizes-stay : (fs : List VF) (ns : List ℕ) → map size_of (with_ids fs ns) ≡ map size_of fs
sizes-stay [] ns = refl
sizes-stay (f ∷ fs) [] = refl
sizes-stay (f ∷ fs) (n ∷ ns) = ap (λ (ms : List ℕ). f.vsize ∷ ms) (sizes-stay fs ns)

pub rows-stay : (fs : List VF) (ns : List ℕ) → length (with_ids fs ns) ≡ length fs
rows-stay [] ns = refl
rows-stay (f ∷ fs) [] = refl
rows-stay (f ∷ fs) (n ∷ ns) = ap suc (rows-stay fs ns)

-- set again, the last ones stand
set-again : (fs : List VF) (ns ms : List ℕ) → length ms ≡ length fs → with_ids (with_ids fs ns) ms ≡ with_ids fs ms
set-again [] ns ms e = refl
set-again (f ∷ fs) ns [] e = absurd (omega arith)
set-again (f ∷ fs) [] (m ∷ ms) e = refl
set-again (f ∷ fs) (n ∷ ns) (m ∷ ms) e = ap (λ (gs : List VF). with_id f m ∷ gs) (set-again fs ns ms (suc_inj e))

-- what is lent is the table of the start, with the ids of the session
pub record Stands (files : List VF) (l : Lent) (s : Session) : Type 0 where
  pub state : l.w ≡ s.w
  pub table : l.files ≡ with_ids files s.ids
  pub rows : length s.ids ≡ length files

module _ (files : List VF) (first : ℕ) (l : Lent) (s : Session) (h : Stands files l s) where
  abbrev t : Table
  t = columns files first

  -- so a call is lent what its step is
  ids-as : map id_of l.files ≡ s.ids
  ids-as = ap (map id_of) h.table ∙ ids-set files s.ids h.rows

  slots-as : map dir_slot_of l.files ≡ t.slots
  slots-as = ap (map dir_slot_of) h.table ∙ slots-stay files s.ids

  starts-as : map start_of l.files ≡ t.starts
  starts-as = ap (map start_of) h.table ∙ starts-stay files s.ids

  sizes-as : map size_of l.files ≡ t.sizes
  sizes-as = ap (map size_of) h.table ∙ sizes-stay files s.ids

  write-as : (x : Sector) (busy : Bool) (m : Medium)
      → files_written x.lba x.shown x.written busy m.fat m.area l.files l.w ≡ written (sector_of t s x busy m) s.w
  write-as x busy m = rw (ids-as, slots-as, starts-as, sizes-as, h.state)

  lending-as : (m : Medium) → files_lending m.fat m.area l.files ≡ lent t s m
  lending-as m = rw (ids-as, starts-as, sizes-as)

  -- a call that sets ids, as many as there were
  sets : (after : Lent) (w : W) (ids : List ℕ) → after.w ≡ w → after.files ≡ with_ids l.files ids → length ids ≡ length s.ids
      → Stands files after (record { w = w; ids = ids })
  sets after w ids e f n =
      record { state = e; table = f ∙ ap (λ (gs : List VF). with_ids gs ids) h.table ∙ set-again files s.ids ids (n ∙ h.rows); rows = n ∙ h.rows }

  -- one that leaves the table
  leaves : (after : Lent) (w : W) → after.w ≡ w → after.files ≡ l.files → Stands files after (record { w = w; ids = s.ids })
  leaves after w e f = record { state = e; table = f ∙ h.table; rows = h.rows }

  abbrev Steps : Lent → Result → Outcome → Type 0
  Steps after r o = Stands files after o.after × (r ≡ result_by o)

  ended : (call : Lending → W → Ended) → ((x : Lending) (w : W) → length (call x w).ids ≡ length x.ids) → (m : Medium) (r : EndAnswer) (after : Lent)
      → EndsBy call m.fat m.area l.w l.files r after.w after.files
      → Steps after (end_result r) (of_ended (call (lent t s m) s.w))
  ended call n m r after e =
      let q : call (files_lending m.fat m.area l.files) l.w ≡ call (lent t s m) s.w = rw (lending-as m, h.state) in
      (sets after _ _ (e.1 ∙ ap (λ (o : Ended). o.w) q) (e.2 ∙ ap (λ (o : Ended). with_ids l.files o.ids) q) (n (lent t s m) s.w), ap end_result (e.0 ∙ ap end_answer q))

  steps : (c : Call) (r : Answer c) (after : Lent) → Ensures c l r after → Steps after (result_of c r) (step t c s)
  unfolding Ensures result_of step
  steps (write x busy m) r after e =
      let q = write-as x busy m in
      let e = e.1 in (
        sets after _ _ (e.1 ∙ ap (λ (o : Written). o.w) q) (e.2 ∙ ap (λ (o : Written). with_ids l.files o.ids) q) (write-rows (sector_of t s x busy m) s.w),
        ap numbered (e.0 ∙ ap (λ (o : Written). o.number) q),
      )
  steps (poll clock mounted m) r after e = ended (λ x w. poll_call x w clock mounted) (λ x w. poll-rows x w clock mounted) m r after e
  steps (release m) r after e = ended release_call release-rows m r after e
  steps (release_all reset m) r after e = ended (λ x w. release_all_call x w reset) (λ x w. release_all-rows x w reset) m r after e
  steps (bus_reset m) r after e = ended bus_reset_call bus_reset-rows m r after e
  steps reset_mode r after e = (leaves after _ (e.0 ∙ ap mode_reset h.state) e.1, refl)
  steps (set_read_only on) r after e = (leaves after _ (e.0 ∙ ap (λ (w : W). read_only_set w on) h.state) e.1, refl)
  steps (report j) r after e =
      let q : report_gone (map id_of l.files) j ≡ report_gone s.ids j = ap (λ (ids : List ℕ). report_gone ids j) ids-as in
      (sets after _ _ (e.1 ∙ h.state) (e.0.1 ∙ ap (λ (o : Reported). with_ids l.files o.ids) q) (report-rows s.ids j), ap numbered (e.0.0 ∙ ap (λ (o : Reported). o.number) q))
  steps (refused_start other z) r after e =
      let q : start other l.w ≡ start other s.w = ap (start other) h.state in
      (leaves after _ (e.0.1 ∙ ap (λ (o : Started). o.w) q) e.1, ap numbered (e.0.0 ∙ ap (λ (o : Started). o.number) q))

-- all calls of a list
pub linked-run : (files : List VF) (first : ℕ) {l after : Lent} {cs : List Call} {ts : List Result} → Linked l cs ts after → (h : History) → Stands files l h.session
    → Stands files after (run (columns files first) h cs).session × (reverse_aux ts (results_in h.trace) ≡ results_in (run (columns files first) h cs).trace)
unfolding run event
linked-run files first none h a = (a, refl)
linked-run files first (more {before = l} {mid = l'} {c = c} {ts = ts} r e k) h a =
    let (b, q) = steps files first l h.session a c r l' e in
    let (d, p) = linked-run files first k (next (columns files first) h c) b in
    (d, ap (λ (o : Result). reverse_aux ts (o ∷ results_in h.trace)) q ∙ p)
