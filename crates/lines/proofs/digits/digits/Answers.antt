-- The digits end the number, or make it too large.
use Rattle.std.proofs.Common.{sym, ◌∙◌, ◌≡◌, length, leb-true, arith}
use Rattle.lines.specs.DigitLaws.{reading-starts, reading-stops, reading-ends, reading-goes, reading-fails, digit-bounds}
use Rattle.lines.proofs.digits.digits.Goals as goal

pub loop-i-init : goal.loop-i-init
loop-i-init c = reading-starts _ _

pub returns-then-not-is_digit : goal.returns-then-not-is_digit
returns-then-not-is_digit c =
    c.read.ensures ∙ reading-stops _ _ _ _ c.loop-i.invariant c.loop-i-test.true (sym c.is_digit.ensures ∙ c.if-not-is_digit.true)

pub overflow_sub-c : goal.overflow_sub-c
overflow_sub-c c = (digit-bounds _ (sym c.is_digit.ensures ∙ c.if-not-is_digit.false)).0

pub returns-then-not-has_room : goal.returns-then-not-has_room
returns-then-not-has_room c =
    let e = rw c.from-d.ensures at (sym c.has_room.ensures ∙ c.if-not-has_room.true) in
    reading-fails _ _ _ _ c.loop-i.invariant c.loop-i-test.true (sym c.is_digit.ensures ∙ c.if-not-is_digit.false) e

pub loop-i-preserved : goal.loop-i-preserved
loop-i-preserved c =
    let e = rw c.from-d.ensures at (sym c.has_room.ensures ∙ c.if-not-has_room.false) in
    rw c.from-d.ensures (reading-goes _ _ _ _ c.loop-i.invariant c.loop-i-test.true (sym c.is_digit.ensures ∙ c.if-not-is_digit.false) (leb-true _ _ e))

pub returns : goal.returns
returns c =
    let k : c.loop-i.i ≡ length c.args.line.now = omega (arith, c.loop-i-test.false, c.loop-i.auto.i-end) in
    c.read-2.ensures ∙ rw k at (reading-ends _ _ _ _ c.loop-i.invariant c.loop-i-test.false)
