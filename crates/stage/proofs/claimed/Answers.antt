use mathlib.Core.Path.{◌≡◌, refl, sym, ◌∙◌}
use native.Mathlib.Omega.{arith}
use lib.ListN.{length}
use Rattle.std.proofs.Common.{rules}
use Rattle.state.specs.PairLaws.{free_slot-lt}
use Rattle.state.specs.Setters.{with_st}
use Rattle.staging.specs.Staging.{claimed}
use Rattle.stage.specs.Meets.{cluster_write, slot_write}
use Rattle.stage.proofs.ApartLaws.{slot-meets, claimed-meets}
use Rattle.stage.proofs.claimed.Goals as goal

pub returns-in_default : goal.returns-in_default
unfolding claimed
returns-in_default c = simp (sym c.free_slot.ensures ∙ c.in_default.is) (record { number = refl; changed = refl; state = refl; medium = refl })

pub offset_bounds-w-free : goal.offset_bounds-w-free
offset_bounds-w-free c = omega (arith, free_slot-lt _ _ (sym c.free_slot.ensures ∙ c.in-Some.is))

pub bounds-w-free : goal.bounds-w-free
bounds-w-free c = free_slot-lt _ _ (sym c.free_slot.ensures ∙ c.in-Some.is)

pub in_slot-requires : goal.in_slot-requires
in_slot-requires c = (free_slot-lt _ _ (sym c.free_slot.ensures ∙ c.in-Some.is), c.requires.1)

pub returns : goal.returns
unfolding claimed with_st
returns c =
    let a = c.args in
    let x = cluster_write a.c a.s a.written.now a.fat.now a.area.now in
    let y = slot_write a.s a.written.now a.fat.now a.area.now in
    let n : length c.args.w.now.st ≡ 28 = search rules in
    let f = sym c.free_slot.ensures ∙ c.in-Some.is in
    let l = free_slot-lt _ _ f in
    simp f (slot-meets x _ _ _ _ _ _ _ (claimed-meets y a.w.now c.in-Some.free a.c _ _ _ _ _ (omega arith) c.unused.ensures c.in_slot.ensures))
