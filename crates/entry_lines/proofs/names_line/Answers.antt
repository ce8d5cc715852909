-- The input is too long, or its names are wrong, or they are right.
use Rattle.std.proofs.Common.{ℕ, ◌-◌, ◌∙◌, ◌≡◌, List, length, take, drop, take_all, arith, length-drop, sym, length-take-le}
use Rattle.entry_lines.specs.EntryLines.{names}
use Rattle.entry_lines.specs.EntryLaws.{names-long, names-wrong, names-right}
use Rattle.entry_lines.proofs.names_line.Goals as goal

from-end : (input : List ℕ) (end : ℕ) → take (length input - end) (drop end input) ≡ drop end input
from-end input end = take_all (length input - end) (drop end input) (omega (arith, length-drop end input))

pub returns-then-input-gt-MAX_INPUT : goal.returns-then-input-gt-MAX_INPUT
returns-then-input-gt-MAX_INPUT c = names-long _ c.if-input-gt-MAX_INPUT.true

pub slice_bounds-is_word-end : goal.slice_bounds-is_word-end
slice_bounds-is_word-end c = sym (length-take-le _ _ c.line_end-end.ensures.bound)

pub returns-then-not-is_word : goal.returns-then-not-is_word
unfolding names
returns-then-not-is_word c = names-wrong _ _ _ c.if-input-gt-MAX_INPUT.false c.line_end-end.ensures.place c.is_word.ensures (c.if-not-is_word.true)

pub returns : goal.returns
unfolding names
returns c =
    rw (from-end c.args.input.now c.line_end-end.result) at c.field_end.ensures
    ∙ names-right _ _ _ c.if-input-gt-MAX_INPUT.false c.line_end-end.ensures.place c.is_word.ensures (c.if-not-is_word.false)
