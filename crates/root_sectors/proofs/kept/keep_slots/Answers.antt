use mathlib.Core.Bool.{not, false}
use mathlib.Core.Path.{◌≡◌, sym, ◌∙◌, ap}
use Rattle.loops.specs.Loops.{fold-end}
use Rattle.loops.specs.Sought.{sought-end}
use Rattle.loops.specs.Choices.{and-no, and-of}
use Rattle.root_sectors.specs.Root.{changed_slot}
use Rattle.root_sectors.specs.RootLaws.{keeping-start, keeping-none, keeping-one}
use Rattle.root_sectors.proofs.kept.keep_slots.Goals as goal

pub loop-i-init : goal.loop-i-init
loop-i-init c = keeping-start _ _ _ _

pub loop-i-preserved-then-same_slot : goal.loop-i-preserved-then-same_slot
loop-i-preserved-then-same_slot c =
    let a = c.args in
    let e : changed_slot a.sectors.shown.now a.sectors.written.now c.loop-i.i ≡ false = ap not (sym c.same_slot.ensures ∙ c.if-same_slot.true) in
    keeping-none _ _ _ _ _ _ _ c.loop-i-test.true c.loop-i.invariant (rw e)

pub loop-i-preserved-then-is_own : goal.loop-i-preserved-then-is_own
loop-i-preserved-then-is_own c =
    let a = c.args in
    keeping-none _ _ _ _ _ _ _ c.loop-i-test.true c.loop-i.invariant
    (and-no (changed_slot a.sectors.shown.now a.sectors.written.now c.loop-i.i) _ (ap not (sym c.is_own.ensures ∙ c.if-is_own.true)))

pub loop-i-preserved : goal.loop-i-preserved
loop-i-preserved c =
    let changed = ap not (sym c.same_slot.ensures ∙ c.if-same_slot.false) in
    let host = ap not (sym c.is_own.ensures ∙ c.if-is_own.false) in
    rw c.keep_slot.ensures (keeping-one _ _ _ _ _ _ _ c.loop-i-test.true c.loop-i.invariant (and-of _ _ changed host))

pub returns : goal.returns
returns c =
    let v = c.loop-i.invariant in
    record {
      any = sought-end _ _ _ _ _ v.any c.loop-i-test.false;
      records = fold-end _ _ _ _ _ v.kept c.loop-i-test.false;
    }
