use mathlib.Core.Path.{sym, ◌∙◌}
use Rattle.loops.specs.Loops.{first-start, first-go, first-stop, first-end}
use Rattle.names.specs.Names.{text_len}
use native.Mathlib.Omega.{arith}
use Rattle.names.proofs.entries.text_len.Goals as goal

pub loop-i-init : goal.loop-i-init
loop-i-init c = first-start _ _

pub returns-then-ends_name : goal.returns-then-ends_name
unfolding text_len
returns-then-ends_name c = first-stop _ _ _ _ c.loop-i.invariant (omega arith) (rw c.char_at.ensures at (sym c.ends_name.ensures ∙ c.if-ends_name.true))

pub loop-i-preserved : goal.loop-i-preserved
loop-i-preserved c = first-go _ _ _ _ c.loop-i.invariant (omega arith) (rw c.char_at.ensures at (sym c.ends_name.ensures ∙ c.if-ends_name.false))

pub returns : goal.returns
unfolding text_len
returns c = (omega arith) ∙ first-end _ _ _ _ c.loop-i.invariant (omega arith)
