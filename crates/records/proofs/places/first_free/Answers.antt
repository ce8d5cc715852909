use mathlib.Core.Path.{◌≡◌, sym, ◌∙◌}
use mathlib.Core.Bool.{true, false}
use native.Mathlib.Omega.{arith}
use borrow.Author.Tests.{eq-eqb, ne_eqb}
use Rattle.std.proofs.lemmas.List.{get_or_default}
use Rattle.loops.specs.Found.{find-start, find-go, find-stop, find-end}
use Rattle.loops.specs.Keyed.{free_place}
use Rattle.records.proofs.places.first_free.Goals as goal

pub loop-i-init : goal.loop-i-init
loop-i-init g c d = find-start _ _

pub returns-then-key-eq0 : goal.returns-then-key-eq0
returns-then-key-eq0 g c d =
    let xs = c.args.places.now in
    let i = c.loop-i.i in
    let e : free_place g.P.Place.key d xs i ≡ true =
    rw (get_or_default xs i d c.index-places-i.result (omega arith)) (eq-eqb _ _ (sym c.key.ensures ∙ c.if-key-eq0.true)) in
    rw (← c.type_inv.places) (find-stop _ _ _ _ (c.loop-i.invariant d) (omega arith) e)

pub loop-i-preserved : goal.loop-i-preserved
loop-i-preserved g c d =
    let xs = c.args.places.now in
    let i = c.loop-i.i in
    let e : free_place g.P.Place.key d xs i ≡ false =
    rw (get_or_default xs i d c.index-places-i.result (omega arith)) (ne_eqb _ _ (λ q. c.if-key-eq0.false (c.key.ensures ∙ q))) in
    find-go _ _ _ _ (c.loop-i.invariant d) (omega arith) e

pub returns : goal.returns
returns g c d = rw (← c.type_inv.places) (find-end _ _ _ _ (c.loop-i.invariant d) (omega arith))
