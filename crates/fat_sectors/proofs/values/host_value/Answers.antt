use native.Mathlib.Omega.{arith}
use borrow.Author.Tests.{eq-eqb, ne_eqb, le-leb, lt-leb}
use Rattle.fat_sectors.specs.Values.{host_value}
use Rattle.fat_sectors.proofs.values.host_value.Goals as goal

pub returns-then-v-eq0 : goal.returns-then-v-eq0
unfolding host_value
returns-then-v-eq0 c = simp (eq-eqb _ _ c.if-v-eq0.true)

pub returns-then-v-lt2 : goal.returns-then-v-lt2
unfolding host_value
returns-then-v-lt2 c = simp (ne_eqb _ _ c.if-v-eq0.false, lt-leb _ _ c.if-v-lt2.true, lt-leb 65528 c.args.v (omega arith))

pub returns-then-v : goal.returns-then-v
unfolding host_value
returns-then-v c = simp (ne_eqb _ _ c.if-v-eq0.false, le-leb _ _ c.if-v-lt2.false, le-leb c.args.v 65001 (omega arith))

pub returns : goal.returns
unfolding host_value
returns c = simp (ne_eqb _ _ c.if-v-eq0.false, le-leb _ _ c.if-v-lt2.false, lt-leb c.args.v 65001 (omega arith))
