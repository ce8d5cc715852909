use Prim.Native.Nat.{◌+◌, ◌-◌, ◌*◌}
use mathlib.Core.Path.{◌≡◌, sym, ◌∙◌}
use lib.ListN.{take, drop}
use native.Mathlib.Omega.{arith}
use Rattle.root_sectors.specs.Records.{kept_in, put_in}
use Rattle.root_sectors.specs.RootLaws.{place_of-lt}
use Rattle.root_sectors.proofs.kept.keep_slot.Goals as goal

pub returns-in_default : goal.returns-in_default
unfolding kept_in put_in
returns-in_default c = simp (sym c.place_of.ensures ∙ c.in_default.is)

pub offset_bounds-rec-k : goal.offset_bounds-rec-k
offset_bounds-rec-k c = omega (arith, place_of-lt _ _ _ (sym c.place_of.ensures ∙ c.in-Some.is))

pub bounds-rec-k : goal.bounds-rec-k
bounds-rec-k c = place_of-lt _ _ _ (sym c.place_of.ensures ∙ c.in-Some.is)

pub returns : goal.returns
unfolding kept_in put_in
returns c =
    let at = c.args.i * 32 in
    let n : at + 32 - at ≡ 32 = omega arith in
    let e : c.copy_from_slice.new.self ≡ take 32 (drop at c.args.written.now) = c.copy_from_slice.ensures.after ∙ rw n in
    simp (sym c.place_of.ensures ∙ c.in-Some.is, e)
