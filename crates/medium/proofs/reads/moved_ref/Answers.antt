use mathlib.Core.Path.{sym, ◌∙◌}
use Rattle.loops.specs.Loops.{some-go, some-stop, some-end}
use Rattle.medium.specs.Reads.{moved_ref}
use native.Mathlib.Omega.{arith}
use Rattle.medium.proofs.reads.moved_ref.Goals as goal

pub returns-then-slot_names : goal.returns-then-slot_names
unfolding moved_ref
returns-then-slot_names c = some-stop _ _ _ _ c.loop-x.invariant (omega arith) (sym c.slot_names.ensures ∙ c.if-slot_names.true)

pub loop-x-preserved : goal.loop-x-preserved
loop-x-preserved c = some-go _ _ _ _ c.loop-x.invariant (omega arith) (sym c.slot_names.ensures ∙ c.if-slot_names.false)

pub returns : goal.returns
unfolding moved_ref
returns c = some-end _ _ _ _ c.loop-x.invariant (omega arith)
