use Rattle.staging.specs.Blocks.{written_st}
use Rattle.staging.proofs.blocks.mark_written.Goals as goal

pub returns : goal.returns
unfolding written_st
returns c = simp (← c.set_u64-slot.ensures)
