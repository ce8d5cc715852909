-- Demand 1 of the calls that may end a session: a tick, the releases, a bus reset (document 01; `release`, `release_all`, `poll`).
use Rattle.std.specs.Prelude.{ℕ, ◌+◌, max, Bool, true, false, not, ◌&&◌, ◌||◌, List, ◌≡◌, leb, eqb, length, get_or, replicate}
use Rattle.loops.specs.Loops.{pick, all}
use Rattle.loops.specs.Rows.{rows}
use Rattle.bits.specs.Bit.{set_bit}
use Rattle.vdisk.specs.Ids.{turned, freed, gone, moved, cleared}
use Rattle.records.specs.Records.{max_records, rec0, no_rec}
use Rattle.state.specs.State.{max_pairs, max_slots, pair0, st0, no_st, done0}
use Rattle.state.specs.Setters.{with_locks, with_now_ms, with_end_at}
use Rattle.state.specs.declared.w.St.{St}
use Rattle.state.specs.declared.w.W.{W}
use Rattle.medium.specs.Reads.{moved_ref}
use Rattle.release.specs.Undecided.{is_undecided}
use Rattle.release.specs.Release.{Lending, Ended}

-- up to 400 files, with columns of one length, which those of a lent table are
unfoldable pub up_to400 : Lending → Bool
up_to400 x = leb (length x.ids) 400 && eqb (length x.starts) (length x.ids) && eqb (length x.sizes) (length x.ids)

-- turned down: 10, no release, the state and the marks as before
pub record TurnedDown (x : Lending) (w : W) (e : Ended) : Type 0 where
  pub number : e.number ≡ 10
  pub ended : e.ended ≡ 0
  pub had : e.had ≡ false
  pub state : e.w ≡ w
  pub ids : e.ids ≡ x.ids

-- the marks that a completed release leaves of row j: a turned file that isn't gone stays handed where it is freed, or moved and still named by a
-- staged sector; all others are unmarked
unfoldable pub stays_handed : Lending → List St → ℕ → ℕ → Bool
stays_handed x st j id = turned id && not (gone id) && (freed id || (moved id && moved_ref x.fat x.area st (get_or x.starts j 0) (get_or x.sizes j 0)))

unfoldable pub left_marks : Lending → List St → ℕ → ℕ → ℕ
left_marks x st j id = pick (stays_handed x st j id) (set_bit (set_bit (cleared id) 12) 13) (cleared id)

-- what a session's end has no part in
pub record Lasts (w v : W) : Type 0 where
  pub want_rw : v.want_rw ≡ w.want_rw
  pub now_ms : v.now_ms ≡ w.now_ms
  pub stage_t : v.stage_t ≡ w.stage_t
  pub hint : v.hint ≡ w.hint
  pub err : v.err ≡ w.err
  pub fw : v.fw ≡ w.fw
  pub ver : v.ver ≡ w.ver
  pub purged : v.purged ≡ w.purged
  pub n : v.n ≡ w.n
  pub first : v.first ≡ w.first

-- no session, time of a write, staging, decided file, end held back or count of parked files is left
pub record Closed (v : W) : Type 0 where
  pub session : v.session ≡ false
  pub last : v.last ≡ 0
  pub staging : v.staging ≡ false
  pub done : v.done ≡ done0
  pub end_at : v.end_at ≡ 0
  pub parks : v.parks ≡ 0

-- "a completed release leaves no pair, record, staged cluster, boot byte or FAT[1] of the session"
pub record Empty (v : W) : Type 0 where
  pub pair : v.pair ≡ replicate max_pairs pair0
  pub rec : v.rec ≡ replicate max_records rec0
  pub st : v.st ≡ replicate max_slots st0
  pub boot : v.boot ≡ 0
  pub fat1 : v.fat1 ≡ 0

-- there was nothing to release: no session, no boot byte, no FAT[1], and no record, pair or staging slot in use
unfoldable pub nothing_held : W → Bool
nothing_held w =
    not w.session && eqb w.boot 0 && eqb w.fat1 0
    && all (λ i. eqb (get_or w.rec i no_rec).slot 0) max_records 0
    && all (λ i. eqb (get_or w.pair i pair0).c 0) max_pairs 0
    && all (λ i. eqb (get_or w.st i no_st).c 0) max_slots 0

-- a completed release of state w, with this mode after it; locks go only on a reset, and the files of parked blocks are to be deleted
pub record Ran (x : Lending) (w : W) (reset mode : Bool) (e : Ended) : Type 0 where
  pub number : e.number ≡ 0
  pub had : e.had ≡ not (nothing_held w)
  pub empty : Empty e.w
  pub closed : Closed e.w
  pub lasts : Lasts w e.w
  pub rw : e.w.rw ≡ mode
  pub locks : e.w.locks ≡ (not reset && w.locks)
  pub purge : e.w.purge ≡ (not (eqb w.parks 0) || w.purge)
  pub ids : e.ids ≡ rows (left_marks x w.st) x.ids

-- a release that was put off: the end is held back from now on, if it wasn't already
pub record PutOff (x : Lending) (w : W) (e : Ended) : Type 0 where
  pub number : e.number ≡ 0
  pub had : e.had ≡ false
  pub state : e.w ≡ with_end_at w (pick (eqb w.end_at 0) (max w.now_ms 1) w.end_at)
  pub ids : e.ids ≡ x.ids

-- no release was due
pub record Idle (x : Lending) (v : W) (e : Ended) : Type 0 where
  pub number : e.number ≡ 0
  pub had : e.had ≡ false
  pub state : e.w ≡ v
  pub ids : e.ids ≡ x.ids

-- a tick sets the clock, and notes that a mounted drive was locked
abbrev pub clock_set : W → ℕ → Bool → W
clock_set w clock mounted = with_locks (with_now_ms w clock) (mounted || w.locks)

-- an end held back is due once no update file is undecided, or after 1,500 ms; the clock may have gone back
unfoldable pub held_end_due : W → Bool
held_end_due t = not (eqb t.end_at 0) && (not (is_undecided t) || leb (t.end_at + 1500) t.now_ms)

-- a session is quiet 60,000 ms after its last write, where the computer never locked the medium
unfoldable pub quiet_due : W → Bool → Bool
quiet_due t mounted = t.session && not t.locks && not mounted && leb (t.last + 60000) t.now_ms

-- how a tick ends, where t is the state with its clock set: an end that is due is dropped where the drive is mounted, else the session is released;
-- a quiet session is released or put off
unfoldable pub tick_ends : W → Bool → ℕ
tick_ends t mounted = pick (held_end_due t) (pick mounted 0 1) (pick (quiet_due t mounted) (pick (is_undecided t) 2 1) 0)

-- a call that may end the session: taken with up to 400 files, whose columns have one length, and only then; `how` is 0 where no release is due, 1
-- where one runs to its end, 2 where it is put off; t is the state that it is made of, and still the one left where none is due
pub record MayEnd (x : Lending) (w t still : W) (reset mode : Bool) (how : ℕ) (e : Ended) : Type 0 where
  pub admitted : eqb e.number 0 ≡ up_to400 x
  pub refused : (e.number ≡ 0 → ⊥) → TurnedDown x w e
  pub ended : up_to400 x ≡ true → e.ended ≡ how
  pub ran : up_to400 x ≡ true → how ≡ 1 → Ran x t reset mode e
  pub put-off : up_to400 x ≡ true → how ≡ 2 → PutOff x t e
  pub idle : up_to400 x ≡ true → how ≡ 0 → Idle x still e
