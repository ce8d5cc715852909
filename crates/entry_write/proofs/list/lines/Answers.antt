-- A bad line ends the listing, a good one goes on with what it leaves, and the end of the input ends it too.
use Rattle.std.proofs.Common.{sym, ◌∙◌}
use Rattle.entry_write.specs.ListingLaws.{from-good, from-bad, from-ended}
use Rattle.entry_write.proofs.list.lines.Goals as goal

pub returns-in_default : goal.returns-in_default
returns-in_default g c = c.bad.ensures ∙ from-bad _ _ _ c.loop-left.invariant c.in_default.ensures.values (sym c.is_empty.ensures ∙ c.loop-left-test.true)

pub loop-left-preserved : goal.loop-left-preserved
loop-left-preserved g c =
    from-good _ _ _ c.loop-left.invariant _ _ _ c.in-Some.ensures.values (sym c.is_empty.ensures ∙ c.loop-left-test.true) c.entry_write-row.ensures.state

pub returns : goal.returns
returns g c = from-ended _ _ _ c.loop-left.invariant (sym c.is_empty.ensures ∙ c.loop-left-test.false)
