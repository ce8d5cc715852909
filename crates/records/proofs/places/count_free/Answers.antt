use mathlib.Core.Path.{◌≡◌, sym, ◌∙◌}
use mathlib.Core.Bool.{true, false}
use native.Mathlib.Omega.{arith}
use borrow.Author.Tests.{eq-eqb, ne_eqb}
use Rattle.std.proofs.lemmas.List.{get_or_default}
use Rattle.loops.specs.Loops.{count-yes, count-no, count-end}
use Rattle.loops.specs.Keyed.{free_place}
use Rattle.records.proofs.places.count_free.Goals.{then-key-eq0, else-key-eq0}
use Rattle.records.proofs.places.count_free.Goals as goal

pub loop-p-preserved : goal.loop-p-preserved
loop-p-preserved g c =
    let xs = c.args.places.now in
    let i = c.loop-p.p-index in
    elim c.if-key-eq0.branch [
      | then-key-eq0 w ↦ (
        omega arith,
        λ d.
            let e : free_place g.P.Place.key d xs i ≡ true =
            rw (get_or_default xs i d c.p-item.result (omega arith)) (eq-eqb _ _ (sym c.key.ensures ∙ w.if-key-eq0.true)) in
            rw w.n-is (count-yes _ _ _ _ _ (c.loop-p.invariant.1 d) (omega arith) e),
      )
      | else-key-eq0 w ↦ (
        omega arith,
        λ d.
            let e : free_place g.P.Place.key d xs i ≡ false =
            rw (get_or_default xs i d c.p-item.result (omega arith)) (ne_eqb _ _ (λ q. w.if-key-eq0.false (c.key.ensures ∙ q))) in
            rw w.n-is (count-no _ _ _ _ _ (c.loop-p.invariant.1 d) (omega arith) e),
      )
    ]

pub returns : goal.returns
returns g c d = rw (← c.type_inv.places) (count-end _ _ _ _ _ (c.loop-p.invariant.1 d) (omega arith))
