use mathlib.Core.Path.{refl, sym, ◌∙◌}
use Rattle.loops.specs.Loops.{some-start, some-go, some-stop, some-end}
use Rattle.housekeeping.specs.EndToEnd.{prefix_bytes}
use Rattle.housekeeping.proofs.PrefixLaws.{starts, start-in, housekeeping-some}
use native.Mathlib.Omega.{arith}
use Rattle.housekeeping.proofs.housekeeping.Goals as goal

pub loop-i-init : goal.loop-i-init
loop-i-init c = housekeeping-some _ ∙ some-start _ _

pub is_prefix-requires : goal.is_prefix-requires
unfolding starts prefix_bytes
is_prefix-requires c = record { row = refl; part = start-in c.loop-i.i (omega arith) }

pub returns-then-is_prefix : goal.returns-then-is_prefix
unfolding starts
returns-then-is_prefix c = some-stop _ _ _ _ c.loop-i.invariant (omega arith) (sym c.is_prefix.ensures ∙ c.if-is_prefix.true)

pub loop-i-preserved : goal.loop-i-preserved
unfolding starts
loop-i-preserved c = some-go _ _ _ _ c.loop-i.invariant (omega arith) (sym c.is_prefix.ensures ∙ c.if-is_prefix.false)

pub returns : goal.returns
returns c = some-end _ _ _ _ c.loop-i.invariant (omega arith)
