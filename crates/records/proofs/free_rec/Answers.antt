use Rattle.records.specs.Records.{no_rec, free_rec}
use Rattle.records.proofs.free_rec.Goals as goal

pub returns : goal.returns
unfolding free_rec
returns c = c.first_free.ensures no_rec
