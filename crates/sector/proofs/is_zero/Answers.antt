use mathlib.Core.Path.{refl}
use native.Mathlib.Omega.{arith}
use Rattle.sector.specs.Bytes.{zeros}
use Rattle.sector.specs.Laws.{gather-start, gather-go, gather-end}
use Rattle.sector.proofs.is_zero.Goals as goal

pub loop-x-init : goal.loop-x-init
loop-x-init c = gather-start _ _

pub loop-x-preserved : goal.loop-x-preserved
loop-x-preserved c = gather-go _ _ _ _ _ c.loop-x.invariant _ (omega arith) refl

pub returns : goal.returns
unfolding zeros
returns c = gather-end _ _ _ _ _ c.loop-x.invariant (omega arith)
