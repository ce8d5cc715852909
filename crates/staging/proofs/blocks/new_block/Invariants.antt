use Rattle.staging.specs.CopyLaws.{NewUpTo}
use Rattle.staging.proofs.blocks.new_block.Given as goal

abbrev pub invariant-loop-place : goal.invariant-loop-place
invariant-loop-place l = NewUpTo l.initial.area l.block l.slot l.s l.area l.place
