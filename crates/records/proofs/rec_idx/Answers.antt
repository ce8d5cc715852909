use Rattle.records.specs.Records.{no_rec, is_rec, rec_idx}
use Rattle.records.proofs.rec_idx.Goals as goal

pub returns : goal.returns
unfolding rec_idx is_rec
returns c = c.index_of.ensures no_rec
