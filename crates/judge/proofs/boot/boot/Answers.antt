use mathlib.Core.Path.{sym, ◌∙◌}
use Rattle.state.specs.Setters.{with_boot}
use Rattle.judge.proofs.boot.boot.Goals as goal

pub returns-then-not-boot_passes : goal.returns-then-not-boot_passes
returns-then-not-boot_passes c = let e = sym c.boot_passes.ensures ∙ c.if-not-boot_passes.true in record { number = simp e; state = simp e }

pub returns : goal.returns
unfolding with_boot
returns c = let e = sym c.boot_passes.ensures ∙ c.if-not-boot_passes.false in record { number = simp e; state = simp e }
