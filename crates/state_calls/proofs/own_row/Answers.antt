use mathlib.Core.Path.{sym, ap}
use Rattle.state_calls.specs.Answers.{own_answer}
use Rattle.state_calls.proofs.own_row.Goals as goal

pub returns-in-Reserved : goal.returns-in-Reserved
unfolding own_answer
returns-in-Reserved c = ap own_answer (sym c.in-Reserved.is)

pub returns-in-Fixed : goal.returns-in-Fixed
unfolding own_answer
returns-in-Fixed c = ap own_answer (sym c.in-Fixed.is)

pub returns-in-Dyn : goal.returns-in-Dyn
unfolding own_answer
returns-in-Dyn c = ap own_answer (sym c.in-Dyn.is)

pub returns-in-Free : goal.returns-in-Free
unfolding own_answer
returns-in-Free c = ap own_answer (sym c.in-Free.is)
