use mathlib.Core.Path.{refl, ◌∙◌, ap}
use borrow.Author.Tests.{eq-eqb, ne_eqb, lt-leb}
use lib.ListN.{length}
use native.Mathlib.Omega.{arith}
use Rattle.file_table.specs.Table.{accepts, whole_columns}
use Rattle.file_table.proofs.ColumnLaws.{columns-are}
use Rattle.file_table.proofs.columns.columns_ok.Goals as goal

pub returns-then-slots-ids : goal.returns-then-slots-ids
unfolding accepts whole_columns
returns-then-slots-ids c = simp (ne_eqb _ _ c.if-slots-ids.true)

pub returns-then-starts-ids : goal.returns-then-starts-ids
unfolding accepts whole_columns
returns-then-starts-ids c = simp (eq-eqb _ _ c.if-slots-ids.false, ne_eqb _ _ c.if-starts-ids.true)

pub returns-then-sizes-ids : goal.returns-then-sizes-ids
unfolding accepts whole_columns
returns-then-sizes-ids c = simp (eq-eqb _ _ c.if-slots-ids.false, eq-eqb _ _ c.if-starts-ids.false, ne_eqb _ _ c.if-sizes-ids.true)

pub returns-then-ids-gt-MAX_VF : goal.returns-then-ids-gt-MAX_VF
unfolding accepts whole_columns
returns-then-ids-gt-MAX_VF c = simp (eq-eqb _ _ c.if-slots-ids.false, eq-eqb _ _ c.if-starts-ids.false, eq-eqb _ _ c.if-sizes-ids.false, lt-leb _ _ c.if-ids-gt-MAX_VF.true)

pub returns : goal.returns
returns c =
    c.table_ok.ensures
    ∙ ap accepts
    (columns-are _ _ _ _ _ (length c.args.ids.now) (λ i l. c.loop-j.invariant.0 i (omega arith)) c.args.first refl c.if-slots-ids.false c.if-starts-ids.false c.if-sizes-ids.false (omega (arith, c.loop-j.invariant.1)))
