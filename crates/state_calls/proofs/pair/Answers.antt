use mathlib.Core.Path.{sym, ◌∙◌, ap}
use Rattle.state_calls.specs.Answers.{pair_answer}
use Rattle.state_calls.proofs.pair.Goals as goal

pub returns-in_default : goal.returns-in_default
unfolding pair_answer
returns-in_default c = ap pair_answer (sym c.in_default.is ∙ c.pair_of.ensures)

pub returns : goal.returns
unfolding pair_answer
returns c = ap pair_answer (sym c.in-Some.is ∙ c.pair_of.ensures)
