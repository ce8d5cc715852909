use Prim.Native.Nat.{◌-◌}
use borrow.Author.Tests.{eq-eqb, ne_eqb, lt-ltb, le-ltb}
use lib.ListN.{get_or}
use Rattle.vdisk.specs.Owner.{owner_at}
use Rattle.vdisk.specs.DriveLaws.{clusters_of-le}
use Rattle.file_table.specs.Files.{start_of, size_of}
use Rattle.file_table.proofs.FileRows.{column-at}
use Rattle.file_table.proofs.RowLaws.{any_file}
use native.Mathlib.Omega.{arith}
use Rattle.file_table.proofs.owner.owner_at.Goals as goal

pub returns-then-n-eq0 : goal.returns-then-n-eq0
unfolding owner_at
returns-then-n-eq0 c = simp (eq-eqb _ _ c.if-n-eq0.true)

pub overflow_add-rows : goal.overflow_add-rows
overflow_add-rows c = omega (arith, c.nclus.ensures, clusters_of-le (get_or c.args.rows.now (c.args.n - 1) any_file).vsize (omega arith))

pub returns-then-c-rows : goal.returns-then-c-rows
unfolding owner_at
returns-then-c-rows c =
    let j = c.args.n - 1 in
    simp (
      ne_eqb _ _ c.if-n-eq0.false,
      column-at start_of c.args.rows.now j any_file (omega arith),
      column-at size_of c.args.rows.now j any_file (omega arith),
      ← c.nclus.ensures,
      lt-ltb _ _ c.if-c-rows.true,
    )

pub returns-else-c-rows : goal.returns-else-c-rows
unfolding owner_at
returns-else-c-rows c =
    let j = c.args.n - 1 in
    simp (
      ne_eqb _ _ c.if-n-eq0.false,
      column-at start_of c.args.rows.now j any_file (omega arith),
      column-at size_of c.args.rows.now j any_file (omega arith),
      ← c.nclus.ensures,
      le-ltb _ _ c.if-c-rows.false,
    )
