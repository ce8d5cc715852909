use Rattle.slots.proofs.fields.letter_at.Goals as goal

pub returns : goal.returns
returns c = simp (← c.lower.ensures)
