use Rattle.state.specs.PairLaws.{slot_of-lt}
use borrow.Author.Tests.{eq-eqb, ne_eqb, le-leb, lt-leb}
use mathlib.Core.Path.{sym, ◌∙◌}
use Rattle.medium.specs.Reads.{staged_answer, staged_bytes, found_answer, found_bytes}
use native.Mathlib.Omega.{arith}
use Rattle.medium.proofs.reads.staged_read.Goals as goal

pub returns-then-out-ne512 : goal.returns-then-out-ne512
unfolding staged_answer staged_bytes
returns-then-out-ne512 c = record { number = simp (ne_eqb _ _ c.if-out-ne512.true); staged = simp (ne_eqb _ _ c.if-out-ne512.true); bytes = simp (ne_eqb _ _ c.if-out-ne512.true) }

pub returns-then-s-ge64 : goal.returns-then-s-ge64
unfolding staged_answer staged_bytes
returns-then-s-ge64 c = record { number = simp (eq-eqb _ _ c.if-out-ne512.false, le-leb _ _ c.if-s-ge64.true); staged = simp (eq-eqb _ _ c.if-out-ne512.false, le-leb _ _ c.if-s-ge64.true); bytes = simp (eq-eqb _ _ c.if-out-ne512.false, le-leb _ _ c.if-s-ge64.true) }

pub returns-in_default : goal.returns-in_default
unfolding staged_answer staged_bytes found_answer found_bytes
returns-in_default c = record { number = simp (eq-eqb _ _ c.if-out-ne512.false, lt-leb _ _ c.if-s-ge64.false, sym c.slot_of.ensures ∙ c.in_default.is); staged = simp (eq-eqb _ _ c.if-out-ne512.false, lt-leb _ _ c.if-s-ge64.false, sym c.slot_of.ensures ∙ c.in_default.is); bytes = simp (eq-eqb _ _ c.if-out-ne512.false, lt-leb _ _ c.if-s-ge64.false, sym c.slot_of.ensures ∙ c.in_default.is) }

pub offset_bounds-st-i : goal.offset_bounds-st-i
offset_bounds-st-i c = omega (arith, slot_of-lt _ _ _ (sym c.slot_of.ensures ∙ c.in-Some.is))

pub bounds-st-i : goal.bounds-st-i
bounds-st-i c = slot_of-lt _ _ _ (sym c.slot_of.ensures ∙ c.in-Some.is)

pub returns : goal.returns
unfolding staged_answer staged_bytes found_answer found_bytes
returns c = record { number = simp (eq-eqb _ _ c.if-out-ne512.false, lt-leb _ _ c.if-s-ge64.false, sym c.slot_of.ensures ∙ c.in-Some.is); staged = simp (eq-eqb _ _ c.if-out-ne512.false, lt-leb _ _ c.if-s-ge64.false, sym c.slot_of.ensures ∙ c.in-Some.is); bytes = simp (eq-eqb _ _ c.if-out-ne512.false, lt-leb _ _ c.if-s-ge64.false, sym c.slot_of.ensures ∙ c.in-Some.is) c.read_sector.ensures }
