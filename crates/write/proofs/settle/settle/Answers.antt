use Rattle.refusals.proofs.Numbers.{number-not-0}
use Rattle.write.proofs.settle.settle.Goals as goal

pub returns-in-Ok : goal.returns-in-Ok
returns-in-Ok c = simp c.in-Ok.is c.taken.ensures

pub returns-in-Err : goal.returns-in-Err
returns-in-Err c = simp (c.in-Err.is, number-not-0 c.in-Err.refusal) c.refused.ensures
