use mathlib.Core.Path.{refl, sym, ◌∙◌}
use Rattle.staging.specs.Staging.{put_into, into_block}
use Rattle.stage.specs.Meets.{slot_at}
use Rattle.stage.proofs.SearchLaws.{held-in}
use Rattle.stage.proofs.block.into_block.Goals as goal

pub returns-then-not-held_inside : goal.returns-then-not-held_inside
unfolding into_block
returns-then-not-held_inside c =
    let e = sym c.held_inside.ensures ∙ c.if-not-held_inside.true in
    simp e (record { number = refl; changed = refl; state = refl; medium = refl })

pub put_into-requires-clause-inside : goal.put_into-requires-clause-inside
put_into-requires-clause-inside c =
    let e = sym c.held_inside.ensures ∙ c.if-not-held_inside.false in
    (c.requires.inside e, held-in c.args.fat.now c.args.area.now (slot_at c.args.w.now c.args.i) c.args.s e)

pub returns : goal.returns
unfolding into_block put_into
returns c =
    let e = sym c.held_inside.ensures ∙ c.if-not-held_inside.false in
    simp e (record { number = refl; changed = refl; state = c.put_into.ensures.state; medium = c.put_into.ensures.medium })
