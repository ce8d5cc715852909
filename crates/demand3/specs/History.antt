-- Demand 3 as a statement.
use Rattle.std.specs.Prelude.{ℕ, ◌<◌, Bool, false, not, ◌&&◌, ◌||◌, List, [], ◌∷◌, ◌≡◌, eqb, length, replicate}
use Rattle.std.proofs.Math.Bool.{So}
use Rattle.loops.specs.Loops.{pick}
use Rattle.vdisk.specs.Ids.{handed, unmarked}
use Rattle.file_table.specs.Table.{Table}
use Rattle.records.specs.Records.{max_records, rec0}
use Rattle.state.specs.State.{max_pairs, max_slots, pair0, st0, initial}
use Rattle.state.specs.declared.w.St.{St}
use Rattle.state.specs.declared.w.W.{W}
use Rattle.medium.specs.Reads.{moved_ref}
use Rattle.judge.specs.Classify.{SectorWrite}
use Rattle.marks.specs.Seen.{start_in, size_in, turns_slot, zeroes_entries, stages_name}
use Rattle.demand3.specs.Step.{Session, Outcome, Medium, Call, write, poll, release, release_all, bus_reset, reset_mode, set_read_only, report, refused_start, sector_of, step, id_of}

-- one call, the session that it met, and what came of it
pub record Event : Type 0 where
  pub call : Call
  pub before : Session
  pub out : Outcome

unfoldable pub event : Table → Call → Session → Event
event t c s = record { call = c; before = s; out = step t c s }

-- the session as the last call left it, and the calls so far, the latest first
pub record History : Type 0 where
  pub session : Session
  pub trace : List Event

abbrev pub next : Table → History → Call → History
next t h c = record { session = (event t c h.session).out.after; trace = event t c h.session ∷ h.trace }

unfoldable pub run : Table → History → List Call → History
run t h [] = h
run t h (c ∷ cs) = run t (next t h c) cs

-- "from a start that took its table", which sets the state anew
abbrev pub begun : Table → History
begun t = record { session = record { w = initial t.first; ids = t.ids }; trace = [] }

-- a completed release that left row j unmarked: bits 12 to 15 are 0 in the table that it left
abbrev pub unmarks : ℕ → Event → Bool
unmarks j e = e.out.released && unmarked (id_of e.out.after j)

-- the calls since the last one that a test names
unfoldable pub since_by : (Event → Bool) → List Event → List Event
since_by p [] = []
since_by p (e ∷ es) = pick (p e) [] (e ∷ since_by p es)

-- the calls "since the start or the release that last left it unmarked"
abbrev pub since : ℕ → List Event → List Event
since j es = since_by (unmarks j) es

unfoldable pub any_of : (Event → Bool) → List Event → Bool
any_of p [] = false
any_of p (e ∷ es) = p e || any_of p es

-- What a call holds of file j: a turn of its slot; its entries zeroed; data staged that names it; a sector staged before the call that names it, as the
-- medium of the call stands; a report of it. Read off the sectors shown, written and staged, never off a mark, but that data is staged, and not other
-- data, goes by who owns the cluster, as the judging does.
pub record Seen : Type 0 where
  pub turned : Bool
  pub zeroed : Bool
  pub staged : Bool
  pub named : Bool
  pub gone : Bool

abbrev pub nothing : Seen
nothing = record { turned = false; zeroed = false; staged = false; named = false; gone = false }

abbrev pub named_now : Table → ℕ → List St → Medium → Bool
named_now t j st m = moved_ref m.fat m.area st (start_in t j) (size_in t j)

abbrev pub of_staged : Table → ℕ → List St → Medium → Seen
of_staged t j st m = record { turned = false; zeroed = false; staged = false; named = named_now t j st m; gone = false }

abbrev pub of_sector : Table → ℕ → Session → SectorWrite → Medium → Seen
of_sector t j s x m =
    record { turned = turns_slot t j x; zeroed = zeroes_entries t j x; staged = stages_name t j x s.w; named = named_now t j s.w.st m; gone = false }

abbrev pub seen : Table → ℕ → Session → Call → Seen
seen t j s (write x busy m) = of_sector t j s (sector_of t s x busy m) m
seen t j s (poll clock mounted m) = of_staged t j s.w.st m
seen t j s (release m) = of_staged t j s.w.st m
seen t j s (release_all reset m) = of_staged t j s.w.st m
seen t j s (bus_reset m) = of_staged t j s.w.st m
seen t j s reset_mode = nothing
seen t j s (set_read_only on) = nothing
seen t j s (report i) = record { turned = false; zeroed = false; staged = false; named = false; gone = eqb i j }
seen t j s (refused_start other e) = nothing

abbrev pub seen_in : Table → ℕ → Event → Seen
seen_in t j e = seen t j e.before e.call

-- by a call that was taken; at a release that ran to its end
abbrev pub is_taken : Event → Bool
is_taken e = eqb e.out.number 0

abbrev pub turned_by : Table → ℕ → Event → Bool
turned_by t j e = is_taken e && (seen_in t j e).turned

abbrev pub zeroed_by : Table → ℕ → Event → Bool
zeroed_by t j e = is_taken e && (seen_in t j e).zeroed

abbrev pub staged_by : Table → ℕ → Event → Bool
staged_by t j e = is_taken e && (seen_in t j e).staged

abbrev pub named_by : Table → ℕ → Event → Bool
named_by t j e = e.out.released && (seen_in t j e).named

abbrev pub gone_by : Table → ℕ → Event → Bool
gone_by t j e = is_taken e && (seen_in t j e).gone

abbrev pub lately : ℕ → History → List Event
lately j h = since j h.trace

abbrev pub turned_in : Table → ℕ → List Event → Bool
turned_in t j es = any_of (turned_by t j) es

abbrev pub zeroed_in : Table → ℕ → List Event → Bool
zeroed_in t j es = any_of (zeroed_by t j) es

abbrev pub gone_in : Table → ℕ → List Event → Bool
gone_in t j es = any_of (gone_by t j) es

-- a staged sector naming the file, "either staged already at the turn, read as the medium then stood, or staged by an accepted write after the
-- turn"; es are the calls before e
unfoldable pub moved_in : Table → ℕ → List Event → Bool
moved_in t j [] = false
moved_in t j (e ∷ es) = (turned_by t j e && (seen_in t j e).named) || (staged_by t j e && turned_in t j es) || moved_in t j es

-- "with a release after that": one that ran to its end, at which a staged sector names the file as the medium then stands
unfoldable pub named_in : Table → ℕ → List Event → Bool
named_in t j [] = false
named_in t j (e ∷ es) = (named_by t j e && moved_in t j es) || named_in t j es

-- "a completed release leaves no pair, record, staged cluster, boot byte or FAT[1] of the session"
pub record Clean (w : W) : Type 0 where
  pub pair : w.pair ≡ replicate max_pairs pair0
  pub rec : w.rec ≡ replicate max_records rec0
  pub st : w.st ≡ replicate max_slots st0
  pub boot : w.boot ≡ 0
  pub fat1 : w.fat1 ≡ 0

-- it holds of every one of these calls
pub data Each (P : Event → Type 0) : List Event → Type 0 where
  none : Each P []
  more : {e : Event} {es : List Event} → P e → Each P es → Each P (e ∷ es)

-- Demand 3, one claim about a whole list.
pub record Demand3 (t : Table) (h : History) : Type 0 where
  -- "handed to deletion only if, since .., an accepted write turned its directory slot .., and either an accepted FAT write zeroed all its
  -- entries in that sector, one shown non-zero, or at a release a staged sector held an ordinary slot with its start and length"
  pub safe : (j : ℕ) → j < length t.ids → So (handed (id_of h.session j))
      → So (turned_in t j (lately j h)) × So (zeroed_in t j (lately j h) || named_in t j (lately j h))
  -- no file is handed that was reported gone since
  pub present : (j : ℕ) → j < length t.ids → So (handed (id_of h.session j)) → So (not (gone_in t j (lately j h)))
  -- "A file turned and zeroed so, and not reported gone since that start or release, is handed"
  pub complete : (j : ℕ) → j < length t.ids → So (turned_in t j (lately j h)) → So (zeroed_in t j (lately j h)) → So (not (gone_in t j (lately j h)))
      → So (handed (id_of h.session j))
  -- nor does any call of the list, a release neither, take back a file that is handed, but a report that it is gone
  pub held : (j : ℕ) → j < length t.ids → Each (λ e. So (handed (id_of e.before j)) → So (handed (id_of e.out.after j) || gone_by t j e)) h.trace
  -- "a completed release leaves no pair, record, staged cluster, boot byte or FAT[1] of the session", whichever call of the list led to it
  pub clean : Each (λ e. So e.out.released → Clean e.out.after.w) h.trace
  -- and each file of the table handed, or unmarked, "bits 12 to 15 are 0 in the table that the release left"
  pub settled : (j : ℕ) → j < length t.ids
      → Each (λ e. So e.out.released → So (handed (id_of e.out.after j) || unmarked (id_of e.out.after j))) h.trace

-- "The release that last left it unmarked" may also be read with releases that were put off, skipped or cut short, which leave the table as it was:
-- `also` says which calls count besides those that completed one.
abbrev pub unmarks_either : (Event → Bool) → ℕ → Event → Bool
unmarks_either also j e = (e.out.released || also e) && unmarked (id_of e.out.after j)

abbrev pub since_either : (Event → Bool) → ℕ → List Event → List Event
since_either also j es = since_by (unmarks_either also j) es

-- Every such reading says the same of what the calls held.
pub record SameEither (also : Event → Bool) (t : Table) (j : ℕ) (h : History) : Type 0 where
  pub turned : turned_in t j (since_either also j h.trace) ≡ turned_in t j (lately j h)
  pub zeroed : zeroed_in t j (since_either also j h.trace) ≡ zeroed_in t j (lately j h)
  pub named : named_in t j (since_either also j h.trace) ≡ named_in t j (lately j h)
  pub gone : gone_in t j (since_either also j h.trace) ≡ gone_in t j (lately j h)
