use mathlib.Core.Path.{sym, ap, ◌∙◌}
use native.Mathlib.Omega.{arith}
use borrow.Author.Tests.{ne_eqb}
use Rattle.std.proofs.lemmas.List.{length-map}
use Rattle.refusals.proofs.Numbers.{refused}
use Rattle.file_table.specs.Files.{id_of, with_ids}
use Rattle.file_table.proofs.FileRows.{same-ids}
use Rattle.fat_sectors.specs.Fat.{fat_in, fat_state, fat_ids}
use Rattle.fat_sectors.specs.FatLaws.{freed-ids}
use Rattle.fat_sectors.proofs.sectors.fat.Goals as goal

pub returns-in_err-gathered-clause-state : goal.returns-in_err-gathered-clause-state
unfolding fat_state
returns-in_err-gathered-clause-state c =
    let n = rw (c.table_for-table.ensures.same_rows, c.table_for-table.ensures.same_first) at c.in_err-gathered.ensures in
    simp (ne_eqb _ _ (λ z. refused _ (n ∙ z)))

pub returns-in_err-gathered-clause-table : goal.returns-in_err-gathered-clause-table
unfolding fat_ids
returns-in_err-gathered-clause-table c =
    let n = rw (c.table_for-table.ensures.same_rows, c.table_for-table.ensures.same_first) at c.in_err-gathered.ensures in
    simp (ne_eqb _ _ (λ z. refused _ (n ∙ z))) (sym (same-ids c.args.files.now))

pub returns-clause-state : goal.returns-clause-state
unfolding fat_state
returns-clause-state c =
    let o = rw (c.table_for-table.ensures.same_rows, c.table_for-table.ensures.same_first) at c.in_ok-gathered.ensures in
    simp o.0 (rw (c.table_for-table.ensures.same_rows, c.table_for-table.ensures.same_first) at c.apply.ensures)

pub returns-clause-table : goal.returns-clause-table
unfolding fat_ids
returns-clause-table c =
    let fs = c.args.files.now in
    let x = fat_in fs c.args.w.now c.args.s c.args.sectors.shown.now c.args.sectors.written.now in
    let o = rw (c.table_for-table.ensures.same_rows, c.table_for-table.ensures.same_first) at c.in_ok-gathered.ensures in
    simp o.0 (c.mark_freed.ensures ∙ ap (with_ids fs) (freed-ids x _ o.1 (omega (arith, length-map fs id_of))))
