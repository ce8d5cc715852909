use Rattle.reasons.proofs.at_turn.Goals as goal

pub returns-then-named : goal.returns-then-named
returns-then-named c = simp c.if-named.true

pub returns-else-named : goal.returns-else-named
returns-else-named c = simp c.if-named.false
