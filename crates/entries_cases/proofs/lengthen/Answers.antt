-- The input has more bytes than the names.
use Rattle.std.proofs.Common.{arith, length-take-le}
use Rattle.entries_cases.proofs.lengthen.Goals as goal

pub copy_from_slice-requires : goal.copy_from_slice-requires
copy_from_slice-requires c = length-take-le 20 _ (omega arith)
