use Rattle.refusals.specs.declared.Refusal.TheVariants.{PastTheEnd, Medium, Busy}
use Rattle.refusals.proofs.Numbers.{apart}
use Rattle.write.specs.Write.{error_of}
use Rattle.write.proofs.settle.error_of.Goals as goal

pub returns-in-PastTheEnd : goal.returns-in-PastTheEnd
unfolding error_of
returns-in-PastTheEnd c = simp c.in-PastTheEnd.is

pub returns-in-Medium : goal.returns-in-Medium
unfolding error_of
returns-in-Medium c = simp c.in-Medium.is

pub returns-in-Busy : goal.returns-in-Busy
unfolding error_of
returns-in-Busy c = simp c.in-Busy.is

pub returns-in_default : goal.returns-in_default
unfolding error_of
returns-in_default c =
    let r = c.args.refusal in
    let n = c.in_default in
    simp (apart r PastTheEnd n.not-PastTheEnd, apart r Medium n.not-Medium, apart r Busy n.not-Busy)
