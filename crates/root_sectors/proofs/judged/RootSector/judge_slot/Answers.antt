use mathlib.Core.Path.{sym, ◌∙◌}
use Rattle.root_sectors.specs.Root.{slot_number}
use Rattle.root_sectors.proofs.judged.RootSector.judge_slot.Goals as goal

pub returns-then-dates_only : goal.returns-then-dates_only
unfolding slot_number
returns-then-dates_only c = simp (c.requires.2, sym c.is_own.ensures ∙ c.if-is_own.true, sym c.dates_only.ensures ∙ c.if-dates_only.true)

pub returns-then-is_own : goal.returns-then-is_own
unfolding slot_number
returns-then-is_own c = simp (c.requires.2, sym c.is_own.ensures ∙ c.if-is_own.true, sym c.dates_only.ensures ∙ c.if-dates_only.false)

pub returns-then-rec_ok : goal.returns-then-rec_ok
unfolding slot_number
returns-then-rec_ok c = simp (c.requires.2, sym c.is_own.ensures ∙ c.if-is_own.false, ← c.start_fits-host.ensures, sym c.rec_ok.ensures ∙ c.if-rec_ok.true)

pub returns : goal.returns
unfolding slot_number
returns c = simp (c.requires.2, sym c.is_own.ensures ∙ c.if-is_own.false, ← c.start_fits-host.ensures, sym c.rec_ok.ensures ∙ c.if-rec_ok.false)
