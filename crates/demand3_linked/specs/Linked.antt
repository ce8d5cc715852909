-- The calls that a firmware links, one after the other, each by its own `ensures`, and what demand 3's list of calls says of them.
use Rattle.std.specs.Prelude.{ℕ, ◌<◌, Bool, true, false, not, ◌||◌, List, [], ◌∷◌, map, reverse, ◌≡◌, eqb, length}
use Rattle.std.proofs.Math.Bool.{So}
use Rattle.file_table.specs.Table.{Table, columns, accepts}
use Rattle.file_table.specs.declared.VF.{VF}
use Rattle.file_table.specs.Files.{id_of, dir_slot_of, start_of, size_of, with_ids}
use Rattle.state.specs.declared.w.W.{W}
use Rattle.release.specs.Release.{release_call, release_all_call}
use Rattle.sessions.specs.Poll.{poll_call}
use Rattle.sessions.specs.Sessions.{bus_reset_call}
use Rattle.release.specs.Release.{EndsBy}
use Rattle.sessions.specs.Calls.{ReportsBy, StartsBy, AsksMode, SetsMode}
use Rattle.release.specs.Release.{EndAnswer}
use Rattle.sessions.specs.Calls.{HandedAnswer}
use Rattle.write.specs.Write.{WritesBy}
use Rattle.demand3.specs.Step.{Session, Outcome, Call, write, poll, release, release_all, bus_reset, reset_mode, set_read_only, report, refused_start}
use Rattle.demand3.specs.History.{Event, History, run, begun, lately, turned_in, zeroed_in, named_in, gone_in}

-- What a firmware lends to each call. The medium may be another at each.
pub record Lent : Type 0 where
  pub w : W
  pub files : List VF

-- what a call answers
abbrev pub Answer : Call → Type 0
Answer (write x busy m) = ℕ
Answer (poll clock mounted m) = EndAnswer
Answer (release m) = EndAnswer
Answer (release_all reset m) = EndAnswer
Answer (bus_reset m) = EndAnswer
Answer reset_mode = Unit {0}
Answer (set_read_only on) = Unit {0}
Answer (report j) = ℕ
Answer (refused_start other e) = ℕ

-- What `vwrite_write`, `vwrite_poll`, `vwrite_release`, `vwrite_release_all`, `vdisk_on_bus_reset`, `vwrite_on_bus_reset`, `vwrite_set_read_only`,
-- `vwrite_report_gone` and `vwrite_start` ensure, by the predicates of their contracts; what isn't lent stays. A write leaves some data area, and the medium
-- lent next may be any; the start is lent another table.
unfoldable pub Ensures : (c : Call) → Lent → Answer c → Lent → Type 0
Ensures (write x busy m) before r after =
    (area_left : List ℕ) × WritesBy x.lba x.shown x.written busy m.fat m.area before.w before.files r after.w after.files area_left
Ensures (poll clock mounted m) before r after =
    EndsBy (λ x v. poll_call x v clock mounted) m.fat m.area before.w before.files r after.w after.files
Ensures (release m) before r after = EndsBy release_call m.fat m.area before.w before.files r after.w after.files
Ensures (release_all reset m) before r after =
    EndsBy (λ x v. release_all_call x v reset) m.fat m.area before.w before.files r after.w after.files
Ensures (bus_reset m) before r after = EndsBy bus_reset_call m.fat m.area before.w before.files r after.w after.files
Ensures reset_mode before r after = SetsMode before.w after.w × (after.files ≡ before.files)
Ensures (set_read_only on) before r after = AsksMode on before.w after.w × (after.files ≡ before.files)
Ensures (report j) before r after = ReportsBy j before.files r after.files × (after.w ≡ before.w)
Ensures (refused_start other e) before r after = StartsBy other before.w r after.w × (after.files ≡ before.files)

-- what demand 3 goes by of an answer: the refusal number, 0 of a call that has none; whether a release ran to its end in the call, or was put off
pub record Result : Type 0 where
  pub number : ℕ
  pub released : Bool
  pub put_off : Bool

abbrev pub numbered : ℕ → Result
numbered n = record { number = n; released = false; put_off = false }

abbrev pub end_result : EndAnswer → Result
end_result r = record { number = r.no; released = eqb r.ended 1; put_off = eqb r.ended 2 }

unfoldable pub result_of : (c : Call) → Answer c → Result
result_of (write x busy m) r = numbered r
result_of (poll clock mounted m) r = end_result r
result_of (release m) r = end_result r
result_of (release_all reset m) r = end_result r
result_of (bus_reset m) r = end_result r
result_of reset_mode r = numbered 0
result_of (set_read_only on) r = numbered 0
result_of (report j) r = numbered r
result_of (refused_start other e) r = numbered r

-- the calls of a list, one after the other, each lent what the last one left, and what each answered
pub data Linked : Lent → List Call → List Result → Lent → Type 0 where
  none : {l : Lent} → Linked l [] [] l
  more : {before mid after : Lent} {c : Call} {cs : List Call} {ts : List Result} (r : Answer c) → Ensures c before r mid → Linked mid cs ts after
      → Linked before (c ∷ cs) (result_of c r ∷ ts) after

-- what a `vwrite_start` that takes its table leaves, whatever state it is lent; it is lent the table, and may not change it
pub record Started (files : List VF) (first : ℕ) (after : Lent) : Type 0 where
  pub earlier : W
  pub takes : StartsBy (columns files first) earlier 0 after.w
  pub table : after.files ≡ files

-- what demand 3 goes by of what is lent, of an event, and of the events of a history, the latest first
abbrev pub session_of : Lent → Session
session_of l = record { w = l.w; ids = map id_of l.files }

abbrev pub result_by : Outcome → Result
result_by o = record { number = o.number; released = o.released; put_off = o.put_off }

abbrev pub results_in : List Event → List Result
results_in es = map (λ e. result_by e.out) es

abbrev pub history_of : List VF → ℕ → List Call → History
history_of files first cs = run (columns files first) (begun (columns files first)) cs

-- Linked calls from a start on are a list of demand 3, over the columns of the table that was lent: each call answers what its step has, and what is
-- lent in the end is the session of the list's end; of the table the ids alone changed.
pub record Chained (files : List VF) (first : ℕ) (begin : Lent) (cs : List Call) (ts : List Result) (after : Lent) : Type 0 where
  pub taken : accepts (columns files first) ≡ true
  pub begins : session_of begin ≡ (begun (columns files first)).session
  pub session : session_of after ≡ (history_of files first cs).session
  pub answers : reverse ts ≡ results_in (history_of files first cs).trace
  pub table : after.files ≡ with_ids files (history_of files first cs).session.ids
  pub rows : length after.files ≡ length files
  pub slots : map dir_slot_of after.files ≡ (columns files first).slots
  pub starts : map start_of after.files ≡ (columns files first).starts
  pub sizes : map size_of after.files ≡ (columns files first).sizes

-- demand 3's history of linked calls, with what is lent in the end as its session
abbrev pub lent_history : List VF → ℕ → List Call → Lent → History
lent_history files first cs after = record { session = session_of after; trace = (history_of files first cs).trace }

-- What the finder answers of the table that a list of calls left. The file of a row that it finds was turned, and zeroed or named, "since the start or the
-- release that last left it unmarked", and not reported gone; and it finds one where a file was turned and zeroed so, "and not reported gone since that start or release".
pub record FinderTells (t : Table) (h : History) (r : HandedAnswer) : Type 0 where
  -- there are up to 400 files, since a start took the table
  pub number : r.no ≡ 0
  pub row : So r.found → r.row < length t.ids
  pub safe : So r.found → So (turned_in t r.row (lately r.row h))
      × So (zeroed_in t r.row (lately r.row h) || named_in t r.row (lately r.row h))
  pub present : So r.found → So (not (gone_in t r.row (lately r.row h)))
  pub complete : (j : ℕ) → j < length t.ids → So (turned_in t j (lately j h)) → So (zeroed_in t j (lately j h)) → So (not (gone_in t j (lately j h)))
      → So r.found
