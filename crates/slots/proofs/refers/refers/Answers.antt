use Prim.Native.Nat.{◌*◌}
use native.Mathlib.Omega.{arith}
use borrow.Author.Rules.{rules}
use mathlib.Core.Path.{refl, ◌∙◌}
use Rattle.std.proofs.lemmas.Iterator.{YieldsList-from_range}
use Rattle.std.proofs.lemmas.Iterator.Search.{any_from_yields_List}
use Rattle.slots.specs.RangeLaws.{some-range}
use Rattle.slots.specs.Slots.{names_file, refers_to}
use Rattle.slots.proofs.refers.refers.Goals as goal

pub returns : goal.returns
unfolding refers_to
returns c =
    any_from_yields_List (λ i. names_file c.args.d.now c.args.file_start c.args.file_size (i * 32)) _ _ _ c.any.ensures.ran
    (YieldsList-from_range 0 16 16 refl (omega arith)) (λ x b q k. search rules)
    ∙ some-range _ 16 0
