use mathlib.Core.Path.{sym, ◌∙◌}
use borrow.Author.Tests.{eq-eqb, ne_eqb}
use Rattle.reasons.proofs.ReasonLaws.{turns-dir, turns-none}
use Rattle.reasons.proofs.turns.Goals as goal

pub returns-then-id_dir-k : goal.returns-then-id_dir-k
returns-then-id_dir-k c = sym (turns-dir _ _ _ _ _ _ _ _ _ (sym c.dir_kind.ensures ∙ c.in-Some.is) ∙ simp (← c.id_dir.ensures, ne_eqb _ _ c.if-id_dir-k.true))

pub returns-then-slot-s : goal.returns-then-slot-s
returns-then-slot-s c = sym (turns-dir _ _ _ _ _ _ _ _ _ (sym c.dir_kind.ensures ∙ c.in-Some.is) ∙ simp (← c.id_dir.ensures, eq-eqb _ _ c.if-id_dir-k.false, ne_eqb _ _ c.if-slot-s.true))

pub returns-else-slot-s : goal.returns-else-slot-s
returns-else-slot-s c = sym (turns-dir _ _ _ _ _ _ _ _ _ (sym c.dir_kind.ensures ∙ c.in-Some.is) ∙ simp (← c.id_dir.ensures, eq-eqb _ _ c.if-id_dir-k.false, eq-eqb _ _ c.if-slot-s.false) (sym c.is_turn.ensures))

pub returns-in-None : goal.returns-in-None
returns-in-None c = sym (turns-none _ _ _ _ _ _ _ _ (sym c.dir_kind.ensures ∙ c.in-None.is))
