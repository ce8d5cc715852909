-- How a session is released (document 01; `release_all`, `release`).
use Rattle.std.specs.Prelude.{ℕ, max, Bool, false, not, ◌&&◌, ◌||◌, List, map, ◌≡◌, leb, eqb, length, get_or, replicate, Result, Ok, Err}
use Rattle.loops.specs.Loops.{pick, some}
use Rattle.loops.specs.Rows.{rows}
use Rattle.bits.specs.Bit.{set_bit}
use Rattle.vdisk.specs.Ids.{turned, freed, gone, moved, cleared}
use Rattle.file_table.specs.Table.{max_files}
use Rattle.file_table.specs.Files.{id_of, start_of, size_of, with_ids}
use Rattle.file_table.specs.declared.VF.{VF}
use Rattle.records.specs.Records.{max_records, no_rec, rec0}
use Rattle.state.specs.State.{max_pairs, max_slots, pair0, st0, done0}
use Rattle.state.specs.Setters.{with_boot, with_fat1, with_rec, with_pair, with_st, with_session, with_locks, with_last, with_staging, with_done, with_end_at, with_parks, with_purge}
use Rattle.state.specs.declared.w.St.{St}
use Rattle.state.specs.declared.w.W.{W}
use Rattle.medium.specs.Reads.{moved_ref}
use Rattle.release.specs.Undecided.{is_undecided, staged_at}
use Rattle.refusals.specs.Refusals.{number_of}
use Rattle.refusals.specs.declared.Refusal.{Refusal}
use Rattle.release.specs.declared.Ended as code
use Rattle.release.specs.declared.Ended.TheVariants.{NotDue, Ran, PutOff}

-- What a release is lent: the medium, and the table's columns that it goes by.
pub record Lending : Type 0 where
  pub fat : List ℕ
  pub area : List ℕ
  pub ids : List ℕ
  pub starts : List ℕ
  pub sizes : List ℕ

abbrev pub lending : List ℕ → List ℕ → List ℕ → List ℕ → List ℕ → Lending
lending fat area ids starts sizes = record { fat = fat; area = area; ids = ids; starts = starts; sizes = sizes }

-- what it is lent with a table of files
abbrev pub files_lending : List ℕ → List ℕ → List VF → Lending
files_lending fat area files = lending fat area (map id_of files) (map start_of files) (map size_of files)

-- What a call leaves: the refusal number; 0 where no release was due, 1 where one ran to its end, 2 where it was put off; whether there was
-- anything to release; the state and the ids.
pub record Ended : Type 0 where
  pub number : ℕ
  pub ended : ℕ
  pub had : Bool
  pub w : W
  pub ids : List ℕ

-- A turned file that isn't gone stays handed: freed, or moved where a staged sector still names it. All other marks are cleared.
unfoldable pub handed_on : List ℕ → List ℕ → List St → ℕ → ℕ → ℕ → Bool
handed_on fat area st start size id = turned id && not (gone id) && (freed id || (moved id && moved_ref fat area st start size))

unfoldable pub release_id : Lending → List St → ℕ → ℕ → ℕ
release_id x st j id =
    pick (handed_on x.fat x.area st (get_or x.starts j 0) (get_or x.sizes j 0) id) (set_bit (set_bit (cleared id) 12) 13) (cleared id)

unfoldable pub released_ids : Lending → List St → List ℕ
released_ids x st = rows (release_id x st) x.ids

-- a completed release leaves no pair, record, staged cluster, boot byte or FAT[1] of the session
unfoldable pub emptied : W → W
emptied w =
    with_st (with_pair (with_rec (with_fat1 (with_boot w 0) 0) (replicate max_records rec0)) (replicate max_pairs pair0)) (replicate max_slots st0)

-- nor a session, a time, an end held back; locks go only on a reset, and the parked blocks' files are to be deleted
unfoldable pub released_state : W → Bool → W
released_state w reset =
    with_locks
    (with_end_at (with_done (with_last (with_session (with_staging (with_parks (with_purge (emptied w) (not (eqb w.parks 0) || w.purge)) 0) false) false) 0) done0) 0)
    (not reset && w.locks)

-- there was anything: a session, a boot byte, FAT[1], a record, a pair or a staged cluster
unfoldable pub had_any : W → Bool
had_any w =
    w.session || not (eqb w.boot 0) || not (eqb w.fat1 0)
    || some (λ i. not (eqb (get_or w.rec i no_rec).slot 0)) max_records 0
    || some (λ i. not (eqb (get_or w.pair i pair0).c 0)) max_pairs 0
    || some (staged_at w) max_slots 0

-- `release_all`, with and without reset
unfoldable pub release_all : Lending → W → Bool → Ended
release_all x w reset = record { number = 0; ended = 1; had = had_any w; w = released_state w reset; ids = released_ids x w.st }

-- put off, the end is held back from now on, if it wasn't already
unfoldable pub held_back : W → W
held_back w = pick (eqb w.end_at 0) (with_end_at w (max w.now_ms 1)) w

-- `release`: put off while a DM40*.BIN is undecided and anything is staged
unfoldable pub release : Lending → W → Ended
release x w = pick (is_undecided w) (record { number = 0; ended = 2; had = false; w = held_back w; ids = x.ids }) (release_all x w false)

-- 10 for more than 400 files, or columns of different lengths, which no lent table has
unfoldable pub fits : Lending → Bool
fits x = leb (length x.ids) max_files && eqb (length x.starts) (length x.ids) && eqb (length x.sizes) (length x.ids)

abbrev pub turned_down : Lending → W → ℕ → Ended
turned_down x w n = record { number = n; ended = 0; had = false; w = w; ids = x.ids }

-- the calls, with that refusal
unfoldable pub release_all_call : Lending → W → Bool → Ended
release_all_call x w reset = pick (fits x) (release_all x w reset) (turned_down x w 10)

unfoldable pub release_call : Lending → W → Ended
release_call x w = pick (fits x) (release x w) (turned_down x w 10)

-- the number of how a call ended the session, and whether there was anything
abbrev pub number_of_ended : code.Ended → ℕ
number_of_ended NotDue = 0
number_of_ended (Ran had) = 1
number_of_ended PutOff = 2

abbrev pub had_of_ended : code.Ended → Bool
had_of_ended NotDue = false
had_of_ended (Ran had) = had
had_of_ended PutOff = false

-- What a call that may end the session answers: the refusal number; how it ended, and whether there was anything, by their definition's parts.
pub record EndAnswer : Type 0 where
  pub no : ℕ
  pub ended : ℕ
  pub had : Bool

abbrev pub end_answer : Ended → EndAnswer
end_answer e = record { no = e.number; ended = e.ended; had = e.had }

abbrev pub answered : Result code.Ended Refusal → EndAnswer
answered (Ok e) = record { no = 0; ended = number_of_ended e; had = had_of_ended e }
answered (Err r) = record { no = number_of r; ended = 0; had = false }

-- What each call leaves, in its contract and in demand 3's lists alike. A call that may end the session, by its definition: the answer, the state, the
-- table with its ids.
abbrev pub EndsBy : (Lending → W → Ended) → List ℕ → List ℕ → W → List VF → EndAnswer → W → List VF → Type 0
EndsBy call fat area w files r w_left files_left =
    (r ≡ end_answer (call (files_lending fat area files) w))
    × (w_left ≡ (call (files_lending fat area files) w).w)
    × (files_left ≡ with_ids files (call (files_lending fat area files) w).ids)
