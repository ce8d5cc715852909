use Rattle.staging.specs.Blocks.{holding_st, written_st}
use Rattle.staging.proofs.blocks.hold_block.Goals as goal

pub returns : goal.returns
unfolding holding_st written_st
returns c = simp (c.clear_bit-slot.ensures, c.mark_written.ensures)
