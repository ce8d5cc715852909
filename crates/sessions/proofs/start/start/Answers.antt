use Rattle.std.proofs.Common.{sym, ◌∙◌}
use Rattle.sessions.specs.Sessions.{start}
use Rattle.sessions.proofs.start.start.Goals as goal

pub returns-then-not-table_ok : goal.returns-then-not-table_ok
unfolding start
returns-then-not-table_ok c = let q = sym c.table_ok.ensures ∙ c.if-not-table_ok.true in (rw q, rw q)

pub returns : goal.returns
unfolding start
returns c = let q = sym c.table_ok.ensures ∙ c.if-not-table_ok.false in (rw q, rw q c.initial_state.ensures)
