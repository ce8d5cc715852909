use mathlib.Core.Path.{refl, sym, ◌∙◌}
use lib.Dec.{eqb}
use borrow.Author.Tests.{eqb-false}
use Rattle.loops.specs.Choices.{or-no}
use Rattle.state.specs.Setters.{with_hint}
use Rattle.staging.specs.Blocks.{is_parked, held_for}
use Rattle.staging.specs.Staging.{with_block}
use Rattle.stage.specs.Meets.{slot_at, slot_write}
use Rattle.stage.proofs.SearchLaws.{free-none, free-some, few-blocks, held-in}
use Rattle.stage.proofs.block.with_block.Goals as goal

pub into_block-requires-clause-inside : goal.into_block-requires-clause-inside
into_block-requires-clause-inside c =
    let y = slot_at c.args.w.now c.args.i in
    let n = sym c.needs_block.ensures ∙ c.if-not-needs_block.true in
    let z = eqb-false (held_for y c.args.s) 0 (or-no (eqb (held_for y c.args.s) 0) (is_parked y c.args.s) n).0 in
    λ e. rw c.held_for-held.ensures (held-in c.args.fat.now c.args.area.now y c.args.s e z)

pub returns-then-not-needs_block : goal.returns-then-not-needs_block
unfolding with_block
returns-then-not-needs_block c =
    let n = sym c.needs_block.ensures ∙ c.if-not-needs_block.true in
    simp n (simp (← c.held_for-held.ensures) c.into_block.ensures)

pub next_free-search-requires : goal.next_free-search-requires
next_free-search-requires c = few-blocks _ _ c.requires.medium

pub returns-in_default : goal.returns-in_default
unfolding with_hint
returns-in_default c =
    let a = c.args in
    let x = slot_write a.s a.written.now a.fat.now a.area.now in
    let r = c.next_free-search.ensures in
    let n = sym c.needs_block.ensures ∙ c.if-not-needs_block.false in
    rw (free-none x a.w.now a.i _ _ _ n r.block r.hint c.in_default.is) (record { number = refl; changed = refl; state = refl; medium = refl })

pub into_block-requires-2-clause-inside : goal.into_block-requires-2-clause-inside
into_block-requires-2-clause-inside c =
    let a = c.args in
    let x = slot_write a.s a.written.now a.fat.now a.area.now in
    let r = c.next_free-search.ensures in
    let n = sym c.needs_block.ensures ∙ c.if-not-needs_block.false in
    λ e. (free-some x a.w.now a.i _ _ _ n r.block r.hint c.requires.medium _ c.in-Some.is).1

pub returns : goal.returns
unfolding with_hint
returns c =
    let a = c.args in
    let x = slot_write a.s a.written.now a.fat.now a.area.now in
    let r = c.next_free-search.ensures in
    let n = sym c.needs_block.ensures ∙ c.if-not-needs_block.false in
    rw (free-some x a.w.now a.i _ _ _ n r.block r.hint c.requires.medium _ c.in-Some.is).0 c.into_block-2.ensures
