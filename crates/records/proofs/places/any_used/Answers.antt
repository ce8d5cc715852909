use mathlib.Core.Path.{◌≡◌, sym, ◌∙◌, ap}
use mathlib.Core.Bool.{true, false, not}
use native.Mathlib.Omega.{arith}
use borrow.Author.Tests.{eq-eqb, ne_eqb}
use Rattle.std.proofs.lemmas.List.{get_or_default}
use Rattle.loops.specs.Loops.{some-start, some-go, some-stop, some-end}
use Rattle.loops.specs.Keyed.{free_place}
use Rattle.records.proofs.places.any_used.Goals as goal

pub loop-p-init : goal.loop-p-init
loop-p-init g c d = some-start _ _

pub returns-then-key-ne0 : goal.returns-then-key-ne0
returns-then-key-ne0 g c d =
    let xs = c.args.places.now in
    let i = c.loop-p.p-index in
    let e : not (free_place g.P.Place.key d xs i) ≡ true =
    rw (get_or_default xs i d c.p-item.result (omega arith)) (ap not (ne_eqb _ _ (λ q. c.if-key-ne0.true (c.key.ensures ∙ q)))) in
    rw (← c.type_inv.places) (some-stop _ _ _ _ (c.loop-p.invariant d) (omega arith) e)

pub loop-p-preserved : goal.loop-p-preserved
loop-p-preserved g c d =
    let xs = c.args.places.now in
    let i = c.loop-p.p-index in
    let e : not (free_place g.P.Place.key d xs i) ≡ false =
    rw (get_or_default xs i d c.p-item.result (omega arith)) (ap not (eq-eqb _ _ (sym c.key.ensures ∙ c.if-key-ne0.false))) in
    some-go _ _ _ _ (c.loop-p.invariant d) (omega arith) e

pub returns : goal.returns
returns g c d = rw (← c.type_inv.places) (some-end _ _ _ _ (c.loop-p.invariant d) (omega arith))
