use borrow.Author.Tests.{eq-eqb, ne_eqb}
use Rattle.judge.proofs.boot.byte_passes.Goals as goal

pub returns-then-i-eq-STATE_AT : goal.returns-then-i-eq-STATE_AT
returns-then-i-eq-STATE_AT c = simp (eq-eqb _ _ c.if-i-eq-STATE_AT.true)

pub returns : goal.returns
returns c = simp (ne_eqb _ _ c.if-i-eq-STATE_AT.false)
