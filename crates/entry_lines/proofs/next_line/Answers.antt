-- The three values are read one after another, until one can't be read.
use Rattle.entry_lines.specs.EntryLines.{entry_line}
use Rattle.entry_lines.proofs.next_line.Goals as goal

pub returns-in_err-entry-clause-values : goal.returns-in_err-entry-clause-values
unfolding entry_line
returns-in_err-entry-clause-values c = rw (c.from_residual.ensures, ← c.in_err-entry.ensures.field)

pub returns-in_err-shown-clause-values : goal.returns-in_err-shown-clause-values
unfolding entry_line
returns-in_err-shown-clause-values c =
    rw (c.from_residual-in_err-shown.ensures, ← c.in_ok-entry.ensures.field, ← c.in_err-shown.ensures.field)

pub returns-in_err-written-clause-values : goal.returns-in_err-written-clause-values
unfolding entry_line
returns-in_err-written-clause-values c =
    rw (c.from_residual-in_err-written.ensures, ← c.in_ok-entry.ensures.field, ← c.in_ok-shown.ensures.field, ← c.in_err-written.ensures.field)

pub returns-clause-values : goal.returns-clause-values
unfolding entry_line
returns-clause-values c = rw (← c.in_ok-entry.ensures.field, ← c.in_ok-shown.ensures.field, ← c.in_ok-written.ensures.field)
