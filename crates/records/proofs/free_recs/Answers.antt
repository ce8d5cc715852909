use Rattle.records.specs.Records.{no_rec, free_recs}
use Rattle.records.proofs.free_recs.Goals as goal

pub returns : goal.returns
unfolding free_recs
returns c = c.count_free.ensures no_rec
