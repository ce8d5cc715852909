use mathlib.Core.Path.{sym, ◌∙◌}
use native.Mathlib.Omega.{arith}
use borrow.Author.Tests.{eq-eqb, ne_eqb}
use Rattle.state.specs.PairLaws.{pair_idx-lt}
use Rattle.state.specs.Pairs.{set_pair, set_at}
use Rattle.state.specs.Setters.{with_pair}
use Rattle.state.proofs.pairs.set_pair.Goals as goal

pub returns-then-v-ne0 : goal.returns-then-v-ne0
unfolding set_pair set_at
returns-then-v-ne0 c = simp (sym c.pair_idx.ensures ∙ c.in_default.is, ne_eqb _ _ c.if-v-ne0.true) c.add_pair.ensures

pub returns-else-v-ne0 : goal.returns-else-v-ne0
unfolding set_pair set_at
returns-else-v-ne0 c = simp (sym c.pair_idx.ensures ∙ c.in_default.is, eq-eqb _ _ c.if-v-ne0.false)

pub offset_bounds-w-i : goal.offset_bounds-w-i
offset_bounds-w-i c = omega (arith, pair_idx-lt _ _ _ (sym c.pair_idx.ensures ∙ c.in-Some.is))

pub bounds-w-i : goal.bounds-w-i
bounds-w-i c = pair_idx-lt _ _ _ (sym c.pair_idx.ensures ∙ c.in-Some.is)

pub returns-then-v-eq0 : goal.returns-then-v-eq0
unfolding set_pair set_at with_pair
returns-then-v-eq0 c = simp (sym c.pair_idx.ensures ∙ c.in-Some.is, eq-eqb _ _ c.if-v-eq0.true) c.drop_slot.ensures

pub offset_bounds-w-i-2 : goal.offset_bounds-w-i-2
offset_bounds-w-i-2 c = omega (arith, pair_idx-lt _ _ _ (sym c.pair_idx.ensures ∙ c.in-Some.is))

pub bounds-w-i-2 : goal.bounds-w-i-2
bounds-w-i-2 c = pair_idx-lt _ _ _ (sym c.pair_idx.ensures ∙ c.in-Some.is)

pub returns : goal.returns
unfolding set_pair set_at with_pair
returns c = simp (sym c.pair_idx.ensures ∙ c.in-Some.is, ne_eqb _ _ c.if-v-eq0.false)
