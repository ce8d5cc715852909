use Rattle.std.proofs.Common.{◌∙◌}
use Rattle.entry_write.specs.EntryWriteLaws.{by-sectors}
use Rattle.entry_write.proofs.answer_to.Goals as goal

pub returns : goal.returns
returns c =
    let a = c.args in
    let left = by-sectors a.entry a.shown a.new _ _ c.sector_of-shown.ensures c.sector_of-written.ensures a.w.now _ _ (c.told.ensures ∙ c.write.ensures.0) c.write.ensures.1 in
    record { number = left.0; state = left.1 }
