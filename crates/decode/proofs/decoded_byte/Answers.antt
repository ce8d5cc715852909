use Rattle.std.proofs.Common.{arith, eq-eqb, ne_eqb}
use Rattle.decode.specs.Decode.{decoded_with}
use Rattle.decode.proofs.decoded_byte.Goals as goal

pub returns-then-i-eq-ADD : goal.returns-then-i-eq-ADD
unfolding decoded_with
returns-then-i-eq-ADD c = simp (eq-eqb _ _ c.if-i-eq-ADD.true)

pub returns-then-i-kp : goal.returns-then-i-kp
unfolding decoded_with
returns-then-i-kp c = simp (ne_eqb _ _ c.if-i-eq-ADD.false, eq-eqb _ _ c.if-i-kp.true)

pub returns : goal.returns
unfolding decoded_with
returns c = simp (ne_eqb _ _ c.if-i-eq-ADD.false, ne_eqb _ _ c.if-i-kp.false) (omega arith)
