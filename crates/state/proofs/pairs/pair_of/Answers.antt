use mathlib.Core.Path.{sym, ◌∙◌}
use native.Mathlib.Omega.{arith}
use Rattle.state.specs.PairLaws.{pair_idx-lt}
use Rattle.state.specs.Pairs.{pair_of, pair_at}
use Rattle.state.proofs.pairs.pair_of.Goals as goal

pub returns-in_err-i : goal.returns-in_err-i
unfolding pair_of pair_at
returns-in_err-i c = simp (c.from_residual.ensures, sym c.pair_idx.ensures ∙ c.in_err-i.was)

pub offset_bounds-pair-i : goal.offset_bounds-pair-i
offset_bounds-pair-i c = omega (arith, pair_idx-lt _ _ _ (sym c.pair_idx.ensures ∙ c.in_ok-i.was))

pub bounds-pair-i : goal.bounds-pair-i
bounds-pair-i c = pair_idx-lt _ _ _ (sym c.pair_idx.ensures ∙ c.in_ok-i.was)

pub returns : goal.returns
unfolding pair_of pair_at
returns c = simp (sym c.pair_idx.ensures ∙ c.in_ok-i.was)
