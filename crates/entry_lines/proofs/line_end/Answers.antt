-- the first newline, or the input's end
use Rattle.std.proofs.Common.{arith, ◌≡◌, eqb, get_or, length, eq-eqb, ne_eqb}
use Rattle.loops.specs.Loops.{first-start, first-go, first-stop, first-end}
use Rattle.entry_lines.specs.EntryLines.{newline, line_end}
use Rattle.entry_lines.proofs.line_end.Goals as goal

pub loop-i-init : goal.loop-i-init
unfolding line_end
loop-i-init c = first-start _ _

pub returns-then-c-eq10-clause-place : goal.returns-then-c-eq10-clause-place
returns-then-c-eq10-clause-place c =
    first-stop (λ k. eqb (get_or c.args.input.now k 0) newline) _ _ _ c.loop-i.invariant c.loop-i-test.true (eq-eqb _ _ c.if-c-eq10.true)

pub loop-i-preserved : goal.loop-i-preserved
loop-i-preserved c =
    first-go (λ k. eqb (get_or c.args.input.now k 0) newline) _ _ _ c.loop-i.invariant c.loop-i-test.true (ne_eqb _ _ c.if-c-eq10.false)

pub returns-clause-place : goal.returns-clause-place
returns-clause-place c =
    let e = first-end (λ k. eqb (get_or c.args.input.now k 0) newline) _ _ _ c.loop-i.invariant c.loop-i-test.false in
    let k : c.loop-i.i ≡ length c.args.input.now = omega (arith, c.loop-i.auto.i-end) in
    rw k at e
