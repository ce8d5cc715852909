use native.Mathlib.Omega.{arith}
use Rattle.entry_write.specs.EntryWriteLaws.{free-held}
use Rattle.entry_write.proofs.pairs_held.Goals as goal

pub overflow_sub-result : goal.overflow_sub-result
overflow_sub-result c = omega (arith, c.free_pairs.ensures, free-held c.args.pair.now)

pub returns : goal.returns
returns c = omega (arith, c.free_pairs.ensures, free-held c.args.pair.now)
