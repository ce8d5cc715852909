use Rattle.sector.specs.Bytes.{word32}
use Rattle.sector.proofs.le32.Goals as goal

pub returns : goal.returns
unfolding word32
returns c = simp (← c.le16-low.ensures, ← c.le16-high.ensures)
