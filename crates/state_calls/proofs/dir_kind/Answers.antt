use mathlib.Core.Path.{sym, ◌∙◌, ap}
use Rattle.state_calls.specs.Answers.{dir_answer}
use Rattle.state_calls.proofs.dir_kind.Goals as goal

pub returns-in_default : goal.returns-in_default
unfolding dir_answer
returns-in_default c = ap dir_answer (sym c.in_default.is ∙ c.dir_kind.ensures)

pub returns : goal.returns
unfolding dir_answer
returns c = ap dir_answer (sym c.in-Some.is ∙ c.dir_kind.ensures)
