-- The session's state as it first stands (document 01, "The drive"; the static of vwrite.rs), and its capacities.
use Rattle.std.specs.Prelude.{ℕ, false, [], replicate}
use Rattle.records.specs.Records.{max_records, rec0}
use Rattle.state.specs.declared.w.Pair.{Pair}
use Rattle.state.specs.declared.w.St.{St}
use Rattle.state.specs.declared.w.Done.{Done}
use Rattle.state.specs.declared.w.Stats.{Stats}
use Rattle.state.specs.declared.w.W.{W}

-- 40 pair places, 28 staging slots
abbrev pub max_pairs : ℕ
max_pairs = 40

abbrev pub max_slots : ℕ
max_slots = 28

-- a place and a slot that are not in use
abbrev pub pair0 : Pair
pair0 = record { c = 0; v = 0 }

abbrev pub st0 : St
st0 = record { c = 0; sealed = false; ro = 0; map = 0; blk = replicate 8 0 }

-- what stands past the last slot, which no search reads
abbrev pub no_st : St
no_st = record { c = 0; sealed = false; ro = 0; map = 0; blk = [] }

abbrev pub done0 : Done
done0 = record { slot = 0; start = 0; size = 0; ver = 0 }

abbrev pub stats0 : Stats
stats0 = record { ok = 0; refused = 0; busy = 0; last_refused = 0; deleted = 0; fw_ok = 0; fw_bad = 0 }

-- a start sets the state anew, as the Rust's static first stands, with what it was given
unfoldable pub initial : ℕ → W
initial first =
    record { rw = false; want_rw = false; boot = 0; fat1 = 0; rec = replicate max_records rec0; pair = replicate max_pairs pair0; st = replicate max_slots st0; session = false; locks = false; last = 0; now_ms = 0; staging = false; stage_t = 0; hint = 0; err = 0; fw = 0; done = done0; ver = 0; end_at = 0; parks = 0; purged = false; purge = false; n = stats0; first = first }
