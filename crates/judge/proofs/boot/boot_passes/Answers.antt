use mathlib.Core.Path.{sym, ◌∙◌}
use Rattle.loops.specs.Loops.{all-start, all-go, all-stop, all-end}
use Rattle.judge.specs.Classify.{boot_passes}
use Rattle.judge.proofs.boot.boot_passes.Goals as goal

pub loop-i-init : goal.loop-i-init
loop-i-init c = all-start _ _

pub byte_passes-requires : goal.byte_passes-requires
byte_passes-requires c = c.loop-i-test.true

pub returns-then-not-byte_passes : goal.returns-then-not-byte_passes
unfolding boot_passes
returns-then-not-byte_passes c = all-stop _ _ _ _ c.loop-i.invariant c.loop-i-test.true (sym c.byte_passes.ensures ∙ c.if-not-byte_passes.true)

pub loop-i-preserved : goal.loop-i-preserved
loop-i-preserved c = all-go _ _ _ _ c.loop-i.invariant c.loop-i-test.true (sym c.byte_passes.ensures ∙ c.if-not-byte_passes.false)

pub returns : goal.returns
unfolding boot_passes
returns c = all-end _ _ _ _ c.loop-i.invariant c.loop-i-test.false
