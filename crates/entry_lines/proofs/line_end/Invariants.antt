-- no newline stands before i
use Rattle.std.proofs.Common.{◌≡◌, ◌-◌, eqb, length, get_or}
use Rattle.loops.specs.Loops.{first}
use Rattle.entry_lines.specs.EntryLines.{newline, line_end}
use Rattle.entry_lines.proofs.line_end.Given as goal

abbrev pub invariant-loop-i : goal.invariant-loop-i
invariant-loop-i l = line_end l.input ≡ first (λ k. eqb (get_or l.input k 0) newline) (length l.input - l.i) l.i
