use lib.ListN.{get_or}
use Rattle.std.specs.Prelude.{eqb}
use Rattle.loops.specs.Loops.{pick}
use Rattle.bits.specs.Bit.{set_bit}
use Rattle.file_table.proofs.FileRows.{files-start, files-more, files-end}
use native.Mathlib.Omega.{arith}
use Rattle.fat_sectors.proofs.sectors.mark_freed.Goals as goal

pub loop-j-init : goal.loop-j-init
loop-j-init c = files-start (λ j id. pick (eqb (get_or c.args.rows.now j 0) 1) (set_bit id 13) id) c.args.files.now

pub loop-j-preserved : goal.loop-j-preserved
loop-j-preserved c =
    files-more (λ j id. pick (eqb (get_or c.args.rows.now j 0) 1) (set_bit id 13) id) c.args.files.now c.loop-j.files c.loop-j.j c.loop-j.invariant _ _ c.freed_id.ensures (omega arith)

pub returns : goal.returns
returns c = files-end (λ j id. pick (eqb (get_or c.args.rows.now j 0) 1) (set_bit id 13) id) c.args.files.now c.loop-j.files c.loop-j.j c.loop-j.invariant (omega arith)
