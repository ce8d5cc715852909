-- The listing of an input (document 01, "The entry listing"): each line is judged on what the one before left.
use Rattle.std.specs.Prelude.{ℕ, zero, suc, true, false, List, Option, Some, None, eqb, length}
use Rattle.loops.specs.Loops.{pick}
use Rattle.state.specs.declared.w.W.{W}
use Rattle.write.specs.Write.{write}
use Rattle.entry_lines.specs.EntryLines.{names_line, entry_line}
use Rattle.entry_lines.specs.declared.Line.{Line}
use Rattle.entry_write.specs.EntryWrite.{drive, entry_write}
use Rattle.entry_write.specs.declared.list.Listing.{Listing}

-- the end of the input, and a bad line or bad names, which end the listing
abbrev pub end_at : W → Listing
end_at w = record { ok = true; w = w }

abbrev pub bad_at : W → Listing
bad_at w = record { ok = false; w = w }

-- what a value that is there gives, or the bad end
abbrev pub good : {A : Type 0} → (A → Listing) → W → Option A → Listing
good f w None = bad_at w
good f w (Some a) = f a

-- the state after a line
unfoldable pub after_line : Line → W → W
after_line l w = (write (entry_write l.entry l.shown l.written) w).w

-- the lines, n at most
unfoldable pub listed_from : ℕ → List ℕ → W → Listing
listed_from zero input w = end_at w
listed_from (suc n) input w =
    pick (eqb (length input) 0) (end_at w)
    (good (λ l. listed_from n l.1 (after_line l.0 w)) w (entry_line input))

-- a line has a byte or more, so there are no more lines than bytes
unfoldable pub listed : List ℕ → Listing
listed input = good (λ rest. listed_from (length rest) rest drive) drive (names_line input)
