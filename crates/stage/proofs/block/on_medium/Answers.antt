use mathlib.Core.Path.{refl, sym, ◌∙◌}
use Rattle.state.specs.Setters.{with_st, with_ver}
use Rattle.staging.specs.Staging.{on_medium}
use Rattle.stage.proofs.block.on_medium.Goals as goal

pub returns-then-takes_none : goal.returns-then-takes_none
unfolding on_medium with_st with_ver
returns-then-takes_none c =
    let e = sym c.takes_none.ensures ∙ c.if-takes_none.true in
    simp e (record { number = refl; changed = refl; state = simp c.mark_written.ensures; medium = refl })

pub returns-then-not-is_medium : goal.returns-then-not-is_medium
unfolding on_medium
returns-then-not-is_medium c =
    simp (sym c.takes_none.ensures ∙ c.if-takes_none.false, sym c.is_medium.ensures ∙ c.if-not-is_medium.true)
    (record { number = refl; changed = refl; state = refl; medium = refl })

pub with_block-requires-clause-medium : goal.with_block-requires-clause-medium
with_block-requires-clause-medium c = sym c.is_medium.ensures ∙ c.if-not-is_medium.false

pub returns : goal.returns
unfolding on_medium
returns c = simp (sym c.takes_none.ensures ∙ c.if-takes_none.false, sym c.is_medium.ensures ∙ c.if-not-is_medium.false) c.with_block.ensures
