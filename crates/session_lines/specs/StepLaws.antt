-- What can be lent of a session.
use Rattle.std.specs.Prelude.{ℕ, ◌≤◌, true, ◌&&◌, List, ◌≡◌, length}
use Rattle.std.proofs.Math.Dec.{leb}
use borrow.Author.Tests.{leb-true}
use Rattle.loops.specs.Choices.{and-0, and-1}
use Rattle.session_lines.specs.declared.session.Session.{Session}
use Rattle.session_lines.specs.Steps.{lends, max_rows}

module _ (s : Session) (fat area : List ℕ) (l : lends s fat area ≡ true) where
  pub lends-rows : s.t.n ≤ max_rows
  unfolding lends
  lends-rows = leb-true _ _ (and-0 (leb s.t.n max_rows) (leb s.m.lent_entries (length fat)) (and-0 (leb s.t.n max_rows && leb s.m.lent_entries (length fat)) (leb s.m.lent_bytes (length area)) l))

  pub lends-entries : s.m.lent_entries ≤ length fat
  unfolding lends
  lends-entries = leb-true _ _ (and-1 (leb s.t.n max_rows) (leb s.m.lent_entries (length fat)) (and-0 (leb s.t.n max_rows && leb s.m.lent_entries (length fat)) (leb s.m.lent_bytes (length area)) l))

  pub lends-bytes : s.m.lent_bytes ≤ length area
  unfolding lends
  lends-bytes = leb-true _ _ (and-1 (leb s.t.n max_rows && leb s.m.lent_entries (length fat)) (leb s.m.lent_bytes (length area)) l)
