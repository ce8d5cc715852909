use Rattle.std.proofs.Common.{arith}
use Rattle.release.specs.Notes.{settled_id}
use Rattle.file_table.proofs.FileRows.{files-start, files-more, files-end}
use Rattle.release.proofs.ids.settle_ids.Goals as goal

pub loop-i-init : goal.loop-i-init
loop-i-init c = files-start (λ k id. settled_id id) c.args.files.now

pub loop-i-preserved : goal.loop-i-preserved
loop-i-preserved c = files-more (λ k id. settled_id id) c.args.files.now c.loop-i.files c.loop-i.i c.loop-i.invariant _ _ c.settle_id.ensures (omega arith)

pub returns : goal.returns
returns c = files-end (λ k id. settled_id id) c.args.files.now c.loop-i.files c.loop-i.i c.loop-i.invariant (omega arith)
