use mathlib.Core.Path.{sym, ◌∙◌}
use Rattle.state.specs.State.{no_st}
use Rattle.release.specs.Undecided.{is_undecided}
use Rattle.release.proofs.undecided.is_undecided.Goals as goal

pub returns-then-not-any_used : goal.returns-then-not-any_used
unfolding is_undecided
returns-then-not-any_used c = simp (sym (c.any_used.ensures no_st) ∙ c.if-not-any_used.true)

pub returns : goal.returns
unfolding is_undecided
returns c = simp (sym (c.any_used.ensures no_st) ∙ c.if-not-any_used.false) c.any_undecided.ensures
