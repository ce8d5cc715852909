use Prim.Native.Nat.{ℕ}
use mathlib.Core.Bool.{not}
use mathlib.Core.Path.{sym, ◌∙◌, ap}
use native.Mathlib.Omega.{arith}
use Rattle.std.specs.Prelude.{eqb}
use borrow.Author.Tests.{eq-eqb, lt-ltb, le-ltb}
use Rattle.loops.specs.Loops.{first-go, first-stop, first-end, count-yes, count-no, count-end}
use Rattle.root_sectors.specs.Root.{root_number}
use Rattle.root_sectors.specs.RootLaws.{same-refused, same-needs, judging-start}
use Rattle.refusals.proofs.Numbers.{number-not-0, told-err}
use Rattle.root_sectors.proofs.judged.RootSector.judge.Goals as goal
use Rattle.root_sectors.proofs.judged.RootSector.judge.Goals.{then-needs_rec, else-needs_rec}

pub loop-i-init : goal.loop-i-init
loop-i-init c = (omega arith, judging-start _)

pub loop-i-preserved-then-same_slot : goal.loop-i-preserved-then-same_slot
loop-i-preserved-then-same_slot c =
    let v = c.loop-i.invariant in
    let q = sym c.same_slot.ensures ∙ c.if-same_slot.true in
    (omega arith, record { refused = first-go _ _ _ _ v.1.refused c.loop-i-test.true (same-refused _ _ q); needed = count-no _ _ _ _ _ v.1.needed c.loop-i-test.true (same-needs _ _ q) })

pub returns-in_err-judge_slot : goal.returns-in_err-judge_slot
unfolding root_number
returns-in_err-judge_slot c =
    let n = c.in_err-judge_slot.ensures in
    let q = first-stop _ _ _ _ c.loop-i.invariant.1.refused c.loop-i-test.true (ap (λ (m : ℕ). not (eqb m 0)) (sym n) ∙ ap not (number-not-0 _)) in
    simp (← q, lt-ltb _ _ c.loop-i-test.true) (told-err _ _ c.from_residual.ensures.1 ∙ n)

pub loop-i-preserved : goal.loop-i-preserved
loop-i-preserved c =
    let l = c.loop-i-test.true in
    let v = c.loop-i.invariant.1 in
    let go = first-go _ _ _ _ v.refused l (ap not (eq-eqb _ _ (sym c.in_ok-judge_slot.ensures))) in (
      elim c.if-needs_rec.branch [ then-needs_rec w ↦ omega arith | else-needs_rec w ↦ omega arith ],
      elim c.if-needs_rec.branch [
        | then-needs_rec w ↦ rw w.needed-is (record { refused = go; needed = count-yes _ _ _ _ _ v.needed l (sym c.needs_rec.ensures ∙ w.if-needs_rec.true) })
        | else-needs_rec w ↦ rw w.needed-is (record { refused = go; needed = count-no _ _ _ _ _ v.needed l (sym c.needs_rec.ensures ∙ w.if-needs_rec.false) })
      ],
    )

pub returns-then-free_recs-needed : goal.returns-then-free_recs-needed
unfolding root_number
returns-then-free_recs-needed c =
    let v = c.loop-i.invariant.1 in
    let q = first-end _ _ _ _ v.refused c.loop-i-test.false in
    let n = count-end _ _ _ _ _ v.needed c.loop-i-test.false in
    simp (← q, le-ltb _ _ c.loop-i-test.false, ← n, ← c.free_recs.ensures, lt-ltb _ _ c.if-free_recs-needed.true)

pub returns : goal.returns
unfolding root_number
returns c =
    let v = c.loop-i.invariant.1 in
    let q = first-end _ _ _ _ v.refused c.loop-i-test.false in
    let n = count-end _ _ _ _ _ v.needed c.loop-i-test.false in
    simp (← q, le-ltb _ _ c.loop-i-test.false, ← n, ← c.free_recs.ensures, le-ltb _ _ c.if-free_recs-needed.false)
