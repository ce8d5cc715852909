use mathlib.Core.Path.{sym, ◌∙◌}
use mathlib.Core.Bool.{false}
use Rattle.std.specs.Prelude.{eqb}
use borrow.Author.Tests.{eq-eqb, ne_eqb}
use Rattle.loops.specs.Choices.{and-no}
use Rattle.vdisk.specs.Ids.{id_dir_of}
use Rattle.dir_sectors.proofs.turns.is_file_at.Goals as goal

pub returns-then-f-n : goal.returns-then-f-n
returns-then-f-n c = simp (ne_eqb _ _ c.if-f-n.true, and-no (eqb (id_dir_of c.args.f.id) c.args.k) false)

pub returns-then-id_dir-k : goal.returns-then-id_dir-k
returns-then-id_dir-k c = simp (ne_eqb _ _ (λ e. c.if-id_dir-k.true (c.id_dir.ensures ∙ e)))

pub returns : goal.returns
returns c = simp (eq-eqb _ _ (sym c.id_dir.ensures ∙ c.if-id_dir-k.false), eq-eqb _ _ c.if-f-n.false, ← c.test_u16.ensures)
