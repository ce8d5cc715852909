use Rattle.entry_write.specs.EntryWriteLaws.{row-by}
use Rattle.entry_write.proofs.entry_write.Goals as goal

pub returns : goal.returns
returns c = let e = c.answer_to-answer.ensures in record { row = row-by _ _ _ _ _ _ e.number e.state c.pairs_held.ensures c.fat1.ensures; state = e.state }
