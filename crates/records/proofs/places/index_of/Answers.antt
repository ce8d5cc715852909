use mathlib.Core.Path.{◌≡◌, sym, ◌∙◌}
use mathlib.Core.Bool.{true, false}
use native.Mathlib.Omega.{arith}
use Rattle.std.proofs.lemmas.List.{get_or_default}
use Rattle.loops.specs.Found.{find-start, find-go, find-stop, find-end}
use Rattle.loops.specs.Keyed.{used_place}
use Rattle.records.proofs.places.index_of.Goals as goal

pub loop-i-init : goal.loop-i-init
loop-i-init g c d = find-start _ _

pub returns-then-is_for : goal.returns-then-is_for
returns-then-is_for g c d =
    let xs = c.args.places.now in
    let i = c.loop-i.i in
    let e : used_place g.P.Place.key d xs c.args.c i ≡ true =
    rw (get_or_default xs i d c.index-places-i.result (omega arith)) (sym c.is_for.ensures ∙ c.if-is_for.true) in
    rw (← c.type_inv.places) (find-stop _ _ _ _ (c.loop-i.invariant d) (omega arith) e)

pub loop-i-preserved : goal.loop-i-preserved
loop-i-preserved g c d =
    let xs = c.args.places.now in
    let i = c.loop-i.i in
    let e : used_place g.P.Place.key d xs c.args.c i ≡ false =
    rw (get_or_default xs i d c.index-places-i.result (omega arith)) (sym c.is_for.ensures ∙ c.if-is_for.false) in
    find-go _ _ _ _ (c.loop-i.invariant d) (omega arith) e

pub returns : goal.returns
returns g c d = rw (← c.type_inv.places) (find-end _ _ _ _ (c.loop-i.invariant d) (omega arith))
