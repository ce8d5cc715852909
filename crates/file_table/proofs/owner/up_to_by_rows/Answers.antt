use mathlib.Core.Path.{◌≡◌}
use Prim.Native.Nat.{◌-◌, ◌+◌}
use native.Mathlib.Omega.{arith}
use Rattle.std.proofs.lemmas.List.{length-map}
use Rattle.loops.specs.Loops.{last-go, last-stop, last-end}
use Rattle.vdisk.specs.Owner.{up_to}
use Rattle.file_table.specs.Files.{start_of}
use Rattle.file_table.proofs.RowLaws.{starts-early, starts-late}
use Rattle.file_table.proofs.owner.up_to_by_rows.Goals as goal

pub loop-j-init : goal.loop-j-init
loop-j-init c = rw (length-map c.args.rows.now start_of)

pub returns-then-rows-j : goal.returns-then-rows-j
unfolding up_to
returns-then-rows-j c =
    let e : c.loop-j.j - 1 + 1 ≡ c.loop-j.j = omega arith in
    rw e (last-stop _ _ _ c.loop-j.invariant (omega arith) (starts-early c.args.rows.now (c.loop-j.j - 1) _ (omega arith) c.args.c c.if-rows-j.true))

pub loop-j-preserved : goal.loop-j-preserved
loop-j-preserved c = last-go _ _ _ c.loop-j.invariant (omega arith) (starts-late c.args.rows.now (c.loop-j.j - 1) _ (omega arith) c.args.c c.if-rows-j.false)

pub returns : goal.returns
unfolding up_to
returns c = last-end _ _ _ c.loop-j.invariant (omega arith)
