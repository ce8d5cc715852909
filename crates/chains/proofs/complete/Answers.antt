use mathlib.Core.Path.{◌≡◌, refl, sym, ◌∙◌}
use native.Mathlib.Omega.{arith}
use Rattle.loops.specs.Loops.{all-start, all-go, all-end}
use Rattle.vdisk.specs.Drive.{clusters_of}
use Rattle.state.specs.PairLaws.{slot_of-lt}
use Rattle.chains.specs.Walk.{link_at}
use Rattle.chains.specs.WalkLaws.{slots-start, slots-more, repeated-by, place-by, no-pair, no-slot, is-repeated, not-staged}
use Rattle.chains.specs.WalkLaws.{it-fits, link-by, complete-zero, complete-over, complete-stop, complete-open, complete-whole}
use Rattle.chains.proofs.complete.Goals as goal

pub returns-then-n-gt-NST : goal.returns-then-n-gt-NST
returns-then-n-gt-NST c = c.no_chain.ensures ∙ complete-over _ _ _ _ (omega (arith, c.nclus-n.ensures, c.if-n-gt-NST.true))

pub returns-then-n-eq0 : goal.returns-then-n-eq0
returns-then-n-eq0 c = c.no_chain-then-n-eq0.ensures ∙ complete-zero _ _ _ _ (omega (arith, c.nclus-n.ensures, c.if-n-eq0.true))

pub loop-k-init : goal.loop-k-init
unfolding link_at
loop-k-init c = (refl, slots-start _ _ _, all-start _ _)

pub returns-in_default : goal.returns-in_default
returns-in_default c =
    c.no_chain-in_default.ensures ∙ complete-stop _ _ _ _ _ _ c.nclus-n.ensures c.loop-k.invariant.2 c.loop-k-test.true (no-pair _ _ _ _ _ _ c.loop-k.invariant.0 (sym c.pair_of.ensures
    ∙ c.in_default.is))

pub returns-in_default-slot_of : goal.returns-in_default-slot_of
returns-in_default-slot_of c =
    c.no_chain-in_default-slot_of.ensures
    ∙ complete-stop _ _ _ _ _ _ c.nclus-n.ensures c.loop-k.invariant.2 c.loop-k-test.true
    (no-slot _ _ _ _ _ _ c.loop-k.invariant.0 (sym c.slot_of.ensures ∙ c.in_default-slot_of.is))

pub overflow_cast-i : goal.overflow_cast-i
overflow_cast-i c = omega (arith, slot_of-lt _ _ _ (sym c.slot_of.ensures ∙ c.in-Some-slot_of.is))

pub returns-then-is_repeated : goal.returns-then-is_repeated
returns-then-is_repeated c =
    c.no_chain-then-is_repeated.ensures ∙ complete-stop _ _ _ _ _ _ c.nclus-n.ensures c.loop-k.invariant.2 c.loop-k-test.true
    (is-repeated _ _ _ _ _ _ c.loop-k.invariant.0
    (sym (repeated-by _ _ _ _ _ _ c.loop-k.invariant.1 (place-by _ _ _ _ c.loop-k.invariant.0 _ _ (sym c.slot_of.ensures ∙ c.in-Some-slot_of.is)))
    ∙ sym c.is_repeated.ensures ∙ c.if-is_repeated.true))

pub offset_bounds-st-i : goal.offset_bounds-st-i
offset_bounds-st-i c = omega (arith, slot_of-lt _ _ _ (sym c.slot_of.ensures ∙ c.in-Some-slot_of.is))

pub bounds-st-i : goal.bounds-st-i
bounds-st-i c = slot_of-lt _ _ _ (sym c.slot_of.ensures ∙ c.in-Some-slot_of.is)

pub is_staged-requires : goal.is_staged-requires
unfolding clusters_of
is_staged-requires c =
    omega (arith, c.loop-k-test.true, c.nclus-n.ensures)

pub returns-then-not-is_staged : goal.returns-then-not-is_staged
returns-then-not-is_staged c =
    c.no_chain-then-not-is_staged.ensures ∙ complete-stop _ _ _ _ _ _ c.nclus-n.ensures c.loop-k.invariant.2 c.loop-k-test.true
    (not-staged _ _ _ _ _ _ c.loop-k.invariant.0 _ (sym c.slot_of.ensures ∙ c.in-Some-slot_of.is) (sym c.is_staged.ensures ∙ c.if-not-is_staged.true))

pub overflow_cast-slots : goal.overflow_cast-slots
overflow_cast-slots c = omega (arith, slot_of-lt _ _ _ (sym c.slot_of.ensures ∙ c.in-Some-slot_of.is))

pub loop-k-preserved : goal.loop-k-preserved
loop-k-preserved c =
    let s = sym c.slot_of.ensures ∙ c.in-Some-slot_of.is in
    let v = sym c.pair_of.ensures ∙ c.in-Some.is in
    let p = place-by _ _ _ _ c.loop-k.invariant.0 _ _ s in (
      link-by _ _ _ _ c.loop-k.invariant.0 _ v,
      slots-more _ _ _ _ _ _ c.loop-k.invariant.1 (omega (arith, c.loop-k-test.true, c.if-n-gt-NST.false)) p,
      all-go _ _ _ _ c.loop-k.invariant.2 c.loop-k-test.true
          (it-fits _ _ _ _ _ _ c.loop-k.invariant.0 _ _ v s
          (sym (repeated-by _ _ _ _ _ _ c.loop-k.invariant.1 p) ∙ sym c.is_repeated.ensures ∙ c.if-is_repeated.false)
          (sym c.is_staged.ensures ∙ c.if-not-is_staged.false)),
    )

pub returns-then-c-lt65528 : goal.returns-then-c-lt65528
returns-then-c-lt65528 c =
    let e : c.loop-k.k ≡ c.nclus-n.result = omega (arith, c.loop-k-test.false) in
    c.no_chain-then-c-lt65528.ensures ∙ complete-open _ _ _ _ _ c.nclus-n.ensures (rw (← e, ← c.loop-k.invariant.0) (omega (arith, c.if-c-lt65528.true)))

pub returns : goal.returns
returns c =
    let e : c.loop-k.k ≡ c.nclus-n.result = omega (arith, c.loop-k-test.false) in
    complete-whole _ _ _ _ _ _ c.nclus-n.ensures c.if-n-eq0.false c.if-n-gt-NST.false (sym (all-end _ _ _ _ c.loop-k.invariant.2 c.loop-k-test.false))
    (rw (← e, ← c.loop-k.invariant.0) (omega (arith, c.if-c-lt65528.false))) (rw (← e) c.loop-k.invariant.1)
