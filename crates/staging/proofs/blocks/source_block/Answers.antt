use mathlib.Core.Path.{sym, ◌∙◌}
use borrow.Author.Tests.{eq-eqb, ne_eqb}
use Rattle.staging.specs.Blocks.{source_block}
use Rattle.staging.specs.AreaLaws.{area-same}
use Rattle.staging.proofs.blocks.source_block.Goals as goal

pub returns-then-held-eq0 : goal.returns-then-held-eq0
unfolding source_block
returns-then-held-eq0 c = simp (eq-eqb _ _ (sym c.held_for-held.ensures ∙ c.if-held-eq0.true)) c.new_block.ensures

pub copy_block-requires : goal.copy_block-requires
copy_block-requires c = (c.requires.0, rw c.held_for-held.ensures (c.requires.2 (λ e. c.if-held-eq0.false (c.held_for-held.ensures ∙ e))))

pub returns-then-held-block : goal.returns-then-held-block
unfolding source_block
returns-then-held-block c = simp (← c.held_for-held.ensures) (simp (ne_eqb _ _ c.if-held-eq0.false) c.copy_block.ensures)

pub returns-else-held-block : goal.returns-else-held-block
unfolding source_block
returns-else-held-block c = simp (← c.held_for-held.ensures) (simp (ne_eqb _ _ c.if-held-eq0.false) (simp c.if-held-block.false (sym (area-same _ _))))
