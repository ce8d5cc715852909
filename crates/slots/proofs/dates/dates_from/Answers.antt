use Prim.Native.Nat.{◌-◌}
use borrow.Author.Rules.{rules}
use mathlib.Core.Path.{refl, ◌∙◌}
use Rattle.std.proofs.lemmas.Iterator.{YieldsList-from_range}
use Rattle.std.proofs.lemmas.Iterator.Search.{all_from_yields_List}
use Rattle.slots.specs.RangeLaws.{all-range}
use Rattle.slots.specs.Slots.{date_at}
use Rattle.slots.proofs.dates.dates_from.Goals as goal

pub returns : goal.returns
returns c =
    all_from_yields_List (date_at c.args.a.now c.args.b.now c.args.at) _ _ _ c.all.ensures.ran
    (YieldsList-from_range c.args.from 32 (32 - c.args.from) refl refl) (λ x b q k. search rules)
    ∙ all-range _ _ _
