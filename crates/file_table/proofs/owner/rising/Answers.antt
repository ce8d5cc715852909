use Prim.Native.Nat.{◌+◌, ◌-◌}
use mathlib.Core.Bool.{not}
use mathlib.Core.Path.{◌≡◌, ap, ◌∙◌}
use Rattle.std.proofs.lemmas.List.{length-map}
use Rattle.loops.specs.Sought.{sought-start, sought-here, sought-on, sought-end}
use Rattle.file_table.specs.Files.{start_of}
use Rattle.file_table.proofs.RowLaws.{falls-here, rises-here, all-none}
use native.Mathlib.Omega.{arith}
use Rattle.file_table.proofs.owner.rising.Goals.{then-rows-j, else-rows-j}
use Rattle.file_table.proofs.owner.rising.Goals as goal

pub loop-j-init : goal.loop-j-init
loop-j-init c = sought-start _ _

pub loop-j-preserved : goal.loop-j-preserved
loop-j-preserved c =
    let fs = c.args.rows.now in
    let j = c.loop-j.j in
    let n = length-map fs start_of in
    let r : j + 1 - 1 ≡ j - 1 + 1 = omega arith in
    elim c.if-rows-j.branch [
      | then-rows-j w ↦ rw (w.falls-is, r) (sought-here _ _ _ _ _ c.loop-j.invariant (omega arith) (falls-here fs j _ (omega arith) (omega arith) w.if-rows-j.true))
      | else-rows-j w ↦ rw (w.falls-is, r) (sought-on _ _ _ _ _ c.loop-j.invariant (omega arith) (rises-here fs j _ (omega arith) (omega arith) w.if-rows-j.false))
    ]

pub returns : goal.returns
returns c = let n = length-map c.args.rows.now start_of in ap not (sought-end _ _ _ _ _ c.loop-j.invariant (omega arith)) ∙ all-none c.args.rows.now
