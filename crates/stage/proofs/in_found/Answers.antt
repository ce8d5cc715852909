use mathlib.Core.Path.{sym, ◌∙◌}
use Rattle.state.specs.PairLaws.{slot_of-lt}
use Rattle.staging.specs.Staging.{in_found}
use Rattle.stage.specs.Meets.{cluster_write}
use Rattle.stage.proofs.ApartLaws.{slot-meets}
use Rattle.stage.proofs.in_found.Goals as goal

pub returns-in_default : goal.returns-in_default
unfolding in_found
returns-in_default c = simp (sym c.slot_of.ensures ∙ c.in_default.is) c.claimed.ensures

pub in_slot-requires : goal.in_slot-requires
in_slot-requires c = (slot_of-lt _ _ _ (sym c.slot_of.ensures ∙ c.in-Some.is), c.requires.1)

pub returns : goal.returns
unfolding in_found
returns c =
    let a = c.args in
    simp (sym c.slot_of.ensures ∙ c.in-Some.is) (slot-meets (cluster_write a.c a.s a.written.now a.fat.now a.area.now) _ _ _ _ _ _ _ c.in_slot.ensures)
