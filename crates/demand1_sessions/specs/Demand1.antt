-- Demand 1 of the calls that make a session, and of those that only read, as statements over the definitions that the calls' contracts cite:
-- any call given what it turns down "ends with one listed refusal number, touches only what was lent, and leaves FAT pairs, root records, file
-- marks, FAT[1] and the boot byte as before"; and what a call changes that is not turned down. `Demand1Calls`, at the end, claims them of all
-- the calls; `demand-1-calls` in Theorem proves it.
use Rattle.std.specs.Prelude.{ℕ, ◌<◌, Bool, true, false, not, ◌&&◌, List, ◌≡◌, leb, ltb, eqb, length, get_or, set}
use Rattle.loops.specs.Loops.{pick}
use Rattle.bits.specs.Bit.{set_bit}
use Rattle.vdisk.specs.Ids.{handed}
use Rattle.file_table.specs.Table.{Table, max_files, accepts}
use Rattle.records.specs.declared.Rec.{Rec}
use Rattle.root_slots.specs.RootSlots.{strict_of}
use Rattle.state.specs.State.{initial}
use Rattle.state.specs.Setters.{with_rw, with_want_rw, with_end_at}
use Rattle.state.specs.declared.w.Pair.{Pair}
use Rattle.state.specs.declared.w.St.{St}
use Rattle.state.specs.declared.w.W.{W}
use Rattle.medium.specs.Reads.{staged_answer, staged_bytes}
use Rattle.chains.specs.Chains.{complete_of}
use Rattle.release.specs.Undecided.{is_undecided}
use Rattle.release.specs.Release.{Lending, release_all_call, release_call}
use Rattle.sessions.specs.Poll.{poll_call}
use Rattle.sessions.specs.Sessions.{set_read_only, mode_reset, bus_reset_call, Reported, report_gone, Started, start}
use Rattle.body.specs.Body.{body_of}
use Rattle.file_table.specs.declared.VF.{VF}
use Rattle.sessions.specs.Calls.{FindsFile}
use Rattle.sessions.specs.Calls.{HandedAnswer}
use Rattle.state_calls.specs.Answers.{files_owner}
use Rattle.demand1_sessions.specs.Ends.{MayEnd, clock_set, held_end_due, tick_ends}

-- report gone of a row: 10 for more than 400 files, 21 for a row that isn't in the table or whose file isn't handed, which leave the marks; taken, the
-- file was handed, and the one mark is set
pub record Reports (ids : List ℕ) (j : ℕ) (r : Reported) : Type 0 where
  pub number : r.number ≡ pick (leb (length ids) max_files) (pick (ltb j (length ids) && handed (get_or ids j 0)) 0 21) 10
  pub refused : (r.number ≡ 0 → ⊥) → r.ids ≡ ids
  pub taken : r.number ≡ 0 → (j < length ids) × (handed (get_or ids j 0) ≡ true) × (r.ids ≡ set ids j (set_bit (get_or ids j 0) 14))

-- a start: 10 leaves the state; taken, nothing of an earlier session stays
pub record Starts (t : Table) (w : W) (r : Started) : Type 0 where
  pub admitted : eqb r.number 0 ≡ accepts t
  pub refused : (r.number ≡ 0 → ⊥) → (r.number ≡ 10) × (r.w ≡ w)
  pub taken : r.number ≡ 0 → r.w ≡ initial t.first

-- the calls that only read answer the number that is listed for what they turn down, and nothing but it then
pub record Reads (fat area : List ℕ) (ps : List Pair) (recs : List Rec) (st : List St) (c s : ℕ) (out d : List ℕ) (slot size : ℕ) : Type 0 where
  pub staged : (staged_answer st c s out).no ≡ pick (not (eqb (length out) 512)) 1 (pick (leb 64 s) 2 0)
  pub unread : ((staged_answer st c s out).no ≡ 0 → ⊥) → ((staged_answer st c s out).staged ≡ false) × (staged_bytes fat area st c s out ≡ out)
  pub strict : (strict_of recs d slot).no ≡ pick (not (eqb (length d) 512)) 1 (pick (leb 512 slot) 2 (pick (leb slot 6) 7 0))
  pub unnamed : ((strict_of recs d slot).no ≡ 0 → ⊥) → (strict_of recs d slot).housekeeping ≡ false
  pub body : (body_of fat area ps st c size).no ≡ pick (ltb size 128) 11 (pick (complete_of ps st c size).found 0 20)
  pub unchecked : ((body_of fat area ps st c size).no ≡ 0 → ⊥) → (body_of fat area ps st c size).valid ≡ false

-- the finder and `owner` turn down more than 400 files by 10, and then say nothing else
pub record TableReads (files : List VF) (first c : ℕ) (found : HandedAnswer) : Type 0 where
  pub finder : found.no ≡ pick (leb (length files) 400) 0 10
  pub none-found : (found.no ≡ 0 → ⊥) → (found.found ≡ false) × (found.row ≡ 0)
  pub owner : (files_owner files first c).no ≡ pick (leb (length files) 400) 0 10
  pub unowned : ((files_owner files first c).no ≡ 0 → ⊥) → ((files_owner files first c).owner ≡ 0) × ((files_owner files first c).row ≡ 0)

pub record Demand1Calls : Type 0 where
  pub poll : (x : Lending) (w : W) (clock : ℕ) (mounted : Bool)
      → MayEnd x w (clock_set w clock mounted)
      (pick (held_end_due (clock_set w clock mounted)) (with_end_at (clock_set w clock mounted) 0) (clock_set w clock mounted))
      false w.rw (tick_ends (clock_set w clock mounted) mounted) (poll_call x w clock mounted)
  pub release : (x : Lending) (w : W) → MayEnd x w w w false w.rw (pick (is_undecided w) 2 1) (release_call x w)
  pub release-all : (x : Lending) (w : W) (reset : Bool) → MayEnd x w w w reset w.rw 1 (release_all_call x w reset)
  -- the mode that was asked for is in force after a bus reset
  pub bus-reset : (x : Lending) (w : W) → MayEnd x w w w true w.want_rw 1 (bus_reset_call x w)
  pub mode-reset : (w : W) → mode_reset w ≡ with_rw w w.want_rw
  pub set-read-only : (w : W) (on : Bool) → set_read_only w on ≡ with_want_rw w (not on)
  pub report : (ids : List ℕ) (j : ℕ) → Reports ids j (report_gone ids j)
  pub starts : (t : Table) (w : W) → Starts t w (start t w)
  pub reads : (fat area : List ℕ) (ps : List Pair) (recs : List Rec) (st : List St) (c s : ℕ) (out d : List ℕ) (slot size : ℕ) → Reads fat area ps recs st c s out d slot size
  pub table-reads : (files : List VF) (first c : ℕ) (found : HandedAnswer) → FindsFile files found → TableReads files first c found
