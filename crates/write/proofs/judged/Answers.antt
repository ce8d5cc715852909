use mathlib.Core.Path.{sym}
use Rattle.file_table.proofs.FileRows.{same-ids}
use Rattle.write.proofs.judged.Goals as goal

pub returns-then-not-w : goal.returns-then-not-w
returns-then-not-w c =
    let e = c.if-not-w.true in
    record { number = simp e; changed = simp e; state = simp e; table = simp e (sym (same-ids _)); medium = simp e }

pub returns : goal.returns
returns c = simp c.if-not-w.false c.classify.ensures
