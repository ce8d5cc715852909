use mathlib.Core.Path.{sym, ◌∙◌}
use Rattle.std.proofs.Common.{length-take-le, eq-eqb, ne_eqb}
use Rattle.std.proofs.lemmas.List.{get_or-take}
use Rattle.loops.specs.Sought.{sought-start, sought-here, sought-on, sought-end}
use Rattle.file_table.specs.TableLaws.{repeated}
use native.Mathlib.Omega.{arith}
use Rattle.file_table.proofs.is_repeated.Goals.{then-earlier-key, else-earlier-key}
use Rattle.file_table.proofs.is_repeated.Goals as goal

pub loop-earlier-init : goal.loop-earlier-init
loop-earlier-init c = sought-start _ _

pub loop-earlier-preserved : goal.loop-earlier-preserved
loop-earlier-preserved c =
    let keys = c.args.keys.now in
    let j = c.args.j in
    let i = c.loop-earlier.earlier-index in
    let n = length-take-le j keys (omega arith) in
    let earlier = get_or-take j keys i 0 (omega arith) in
    elim c.if-earlier-key.branch [
      | then-earlier-key w ↦ rw w.found-is (sought-here _ _ _ _ _ c.loop-earlier.invariant (omega arith) (eq-eqb _ _ (sym earlier ∙ w.if-earlier-key.true)))
      | else-earlier-key w ↦ rw w.found-is (sought-on _ _ _ _ _ c.loop-earlier.invariant (omega arith) (ne_eqb _ _ (λ e. w.if-earlier-key.false (earlier ∙ e))))
    ]

pub returns : goal.returns
unfolding repeated
returns c =
    let n = length-take-le c.args.j c.args.keys.now (omega arith) in
    sought-end _ _ _ _ _ c.loop-earlier.invariant (omega arith)
