use Rattle.std.proofs.Common.{leb, rules}
use Rattle.std.proofs.lemmas.List.Sorted.{IsPartitionPoint-from_clause, IsPartitionedBy-leb}
use Rattle.file_table.proofs.RowLaws.{starts-rise, up_to-point}
use Rattle.file_table.specs.Files.{start_of}
use Rattle.file_table.proofs.owner.up_to_by_halves.Goals as goal

pub returns : goal.returns
returns c =
    let fs = c.args.rows.now in
    let parted = IsPartitionedBy-leb start_of fs c.args.c (starts-rise fs c.requires) in
    up_to-point fs c.args.c c.partition_point.result c.partition_point.ensures.bound
    (IsPartitionPoint-from_clause (λ f. leb (start_of f) c.args.c) _ _ c.partition_point.ensures.partitioned parted (λ a r q k. search rules))
