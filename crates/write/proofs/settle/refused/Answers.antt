use Rattle.state.specs.Setters.{with_err, with_n}
use Rattle.refusals.specs.declared.Refusal.TheVariants.{Busy}
use Rattle.refusals.proofs.Numbers.{apart}
use Rattle.write.specs.Write.{refused_state}
use Rattle.write.proofs.settle.refused.Goals as goal

pub returns-in-Busy : goal.returns-in-Busy
unfolding refused_state with_err with_n
returns-in-Busy c = simp (c.error_of-w.ensures, c.in-Busy.is)

pub returns-in_default : goal.returns-in_default
unfolding refused_state with_err with_n
returns-in_default c = simp (c.error_of-w.ensures, apart c.args.refusal Busy c.in_default.not-Busy)
