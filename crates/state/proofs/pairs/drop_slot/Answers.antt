use mathlib.Core.Path.{sym, ◌∙◌}
use native.Mathlib.Omega.{arith}
use Rattle.state.specs.PairLaws.{slot_of-lt}
use Rattle.state.specs.Pairs.{drop_at}
use Rattle.state.specs.Setters.{with_st}
use Rattle.state.proofs.pairs.drop_slot.Goals as goal

pub returns-in_default : goal.returns-in_default
unfolding drop_at
returns-in_default c = simp (sym c.slot_of.ensures ∙ c.in_default.is)

pub offset_bounds-w-k : goal.offset_bounds-w-k
offset_bounds-w-k c = omega (arith, slot_of-lt _ _ _ (sym c.slot_of.ensures ∙ c.in-Some.is))

pub bounds-w-k : goal.bounds-w-k
bounds-w-k c = slot_of-lt _ _ _ (sym c.slot_of.ensures ∙ c.in-Some.is)

pub returns : goal.returns
unfolding drop_at with_st
returns c = simp (sym c.slot_of.ensures ∙ c.in-Some.is, c.unused.ensures)
