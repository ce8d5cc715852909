use mathlib.Core.Path.{◌≡◌}
use Rattle.names.specs.Names.{joined}
use Rattle.names.specs.TextLaws.{joined-more}
use native.Mathlib.Omega.{arith}
use Rattle.names.proofs.text.long_text.Goals as goal

pub loop-s-init : goal.loop-s-init
unfolding joined
loop-s-init c = (omega arith, c.empty-out.ensures.1)

pub loop-s-preserved : goal.loop-s-preserved
loop-s-preserved c = (c.with_text-out.ensures.0, joined-more _ _ _ _ _ _ c.loop-s.invariant.1 c.entry_at-entry.ensures c.with_text-out.ensures.1)

pub returns : goal.returns
returns c = let e : c.loop-s.s ≡ c.args.m = omega arith in (c.loop-s.invariant.0, rw e at c.loop-s.invariant.1)
