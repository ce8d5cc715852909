use mathlib.Core.Path.{sym, ◌∙◌}
use borrow.Author.Tests.{eq-eqb, ne_eqb}
use Rattle.release.proofs.NoteLaws.{note-unnamed, note-idle, note-waiting}
use Rattle.release.proofs.notes.note_row.Goals as goal

pub returns-then-slot_start-f : goal.returns-then-slot_start-f
returns-then-slot_start-f c = simp (ne_eqb _ _ c.if-slot_start-f.true) (sym (note-unnamed _))

pub returns-then-slot_size-f : goal.returns-then-slot_size-f
returns-then-slot_size-f c = simp (eq-eqb _ _ c.if-slot_start-f.false, ne_eqb _ _ c.if-slot_size-f.true) (sym (note-unnamed _))

pub returns-then-not-is_waiting : goal.returns-then-not-is_waiting
returns-then-not-is_waiting c = sym (note-idle _ _ (sym c.is_waiting.ensures ∙ c.if-not-is_waiting.true))

pub returns : goal.returns
returns c = simp (eq-eqb _ _ c.if-slot_start-f.false, eq-eqb _ _ c.if-slot_size-f.false) (c.set_u16.ensures ∙ sym (note-waiting _ (sym c.is_waiting.ensures ∙ c.if-not-is_waiting.false)))
