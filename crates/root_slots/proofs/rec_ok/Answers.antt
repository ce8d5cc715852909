use mathlib.Core.Path.{sym, ap, ◌∙◌}
use borrow.Author.Tests.{eq-eqb, ne_eqb}
use Rattle.loops.specs.Choices.{or-r}
use Rattle.bits.specs.Bit.{bit}
use Rattle.names.specs.Names.{long_name}
use Rattle.housekeeping.specs.Housekeeping.{is_housekeeping}
use Rattle.root_slots.specs.OrLaws.{or-none}
use Rattle.root_slots.specs.RootSlots.{slot_admitted}
use Rattle.root_slots.proofs.rec_ok.Goals as goal

pub returns-then-sector-at-eq0 : goal.returns-then-sector-at-eq0
unfolding slot_admitted
returns-then-sector-at-eq0 c = simp (eq-eqb _ _ c.if-sector-at-eq0.true)

pub returns-then-sector-at : goal.returns-then-sector-at
unfolding slot_admitted
returns-then-sector-at c = simp (ne_eqb _ _ c.if-sector-at-eq0.false, eq-eqb _ _ c.if-sector-at.true)

pub returns-then-is_long : goal.returns-then-is_long
unfolding slot_admitted
returns-then-is_long c = simp (ne_eqb _ _ c.if-sector-at-eq0.false, ne_eqb _ _ c.if-sector-at.false, sym c.is_long.ensures ∙ c.if-is_long.true)

pub returns-then-test_u16 : goal.returns-then-test_u16
unfolding slot_admitted
returns-then-test_u16 c = simp (
  ne_eqb _ _ c.if-sector-at-eq0.false,
  ne_eqb _ _ c.if-sector-at.false,
  sym c.is_long.ensures ∙ c.if-is_long.false,
  ← c.attr-attr.ensures,
  sym c.test_u16.ensures ∙ c.if-test_u16.true,
)

pub returns-then-high-ne0 : goal.returns-then-high-ne0
unfolding slot_admitted
returns-then-high-ne0 c = simp (
  ne_eqb _ _ c.if-sector-at-eq0.false,
  ne_eqb _ _ c.if-sector-at.false,
  sym c.is_long.ensures ∙ c.if-is_long.false,
  ← c.attr-attr.ensures,
  sym c.test_u16.ensures ∙ c.if-test_u16.false,
  ne_eqb _ _ (λ e. c.if-high-ne0.true (c.high.ensures ∙ e)),
)

pub returns-then-not-host : goal.returns-then-not-host
unfolding slot_admitted
returns-then-not-host c = simp (
  ne_eqb _ _ c.if-sector-at-eq0.false,
  ne_eqb _ _ c.if-sector-at.false,
  sym c.is_long.ensures ∙ c.if-is_long.false,
  ← c.attr-attr.ensures,
  sym c.test_u16.ensures ∙ c.if-test_u16.false,
  eq-eqb _ _ (sym c.high.ensures ∙ c.if-high-ne0.false),
  c.if-not-host.true,
)

pub returns-then-is_update : goal.returns-then-is_update
unfolding slot_admitted
returns-then-is_update c = simp (
  ne_eqb _ _ c.if-sector-at-eq0.false,
  ne_eqb _ _ c.if-sector-at.false,
  sym c.is_long.ensures ∙ c.if-is_long.false,
  ap (λ a. bit a 3) (sym c.attr-attr.ensures) ∙ sym c.test_u16.ensures ∙ c.if-test_u16.false,
  eq-eqb _ _ (sym c.high.ensures ∙ c.if-high-ne0.false),
  c.if-not-host.false,
) (sym (or-r (is_housekeeping (long_name c.args.rec.now c.args.sector.now c.args.base c.args.idx)) _ (sym c.is_update.ensures ∙ c.if-is_update.true)))

pub returns : goal.returns
unfolding slot_admitted
returns c = simp (
  ne_eqb _ _ c.if-sector-at-eq0.false,
  ne_eqb _ _ c.if-sector-at.false,
  sym c.is_long.ensures ∙ c.if-is_long.false,
  ap (λ a. bit a 3) (sym c.attr-attr.ensures) ∙ sym c.test_u16.ensures ∙ c.if-test_u16.false,
  eq-eqb _ _ (sym c.high.ensures ∙ c.if-high-ne0.false),
  c.if-not-host.false,
) (c.long_housekeeping.ensures ∙ sym (or-none _ _ (sym c.is_update.ensures ∙ c.if-is_update.false)))
