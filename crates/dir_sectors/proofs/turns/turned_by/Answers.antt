use mathlib.Core.Path.{sym, ◌∙◌}
use borrow.Author.Tests.{le-ltb, lt-ltb}
use Rattle.dir_sectors.specs.Dir.{turned_by}
use Rattle.dir_sectors.proofs.turns.turned_by.Goals as goal

pub returns-then-k-ge3 : goal.returns-then-k-ge3
unfolding turned_by
returns-then-k-ge3 c = simp (le-ltb _ _ c.if-k-ge3.true)

pub returns-then-not-is_turn : goal.returns-then-not-is_turn
unfolding turned_by
returns-then-not-is_turn c = simp (lt-ltb _ _ c.if-k-ge3.false, sym c.is_turn.ensures ∙ c.if-not-is_turn.true)

pub returns : goal.returns
unfolding turned_by
returns c = simp (lt-ltb _ _ c.if-k-ge3.false, sym c.is_turn.ensures ∙ c.if-not-is_turn.false) (c.row_of.ensures c.args.s c.args.sectors.shown.now c.args.sectors.written.now)
