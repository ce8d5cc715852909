use mathlib.Core.Path.{sym, ◌∙◌}
use lib.Dec.{lit<}
use Rattle.bits.specs.Laws.{one-shl}
use Rattle.staging.specs.Blocks.{clear_bit}
use Rattle.staging.specs.BlockLaws.{bit-le}
use Rattle.staging.proofs.blocks.clear_bit.Goals as goal

pub overflow_sub-result : goal.overflow_sub-result
overflow_sub-result c = let l = bit-le _ _ (sym c.test_u16.ensures ∙ c.if-test_u16.true) in rw (one-shl 8 _ c.requires (lit< tt)) l

pub returns-then-test_u16 : goal.returns-then-test_u16
unfolding clear_bit
returns-then-test_u16 c = simp (sym c.test_u16.ensures ∙ c.if-test_u16.true, one-shl 8 _ c.requires (lit< tt))

pub returns : goal.returns
unfolding clear_bit
returns c = simp (sym c.test_u16.ensures ∙ c.if-test_u16.false)
