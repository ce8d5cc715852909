use mathlib.Core.Path.{sym, ap, ◌∙◌}
use native.Mathlib.Omega.{arith}
use Rattle.std.proofs.lemmas.List.{length-map}
use Rattle.std.proofs.lemmas.Bool.{not-true, not-false}
use Rattle.refusals.proofs.Numbers.{told-err, value-err}
use Rattle.file_table.specs.Files.{id_of, with_ids}
use Rattle.file_table.proofs.FileRows.{same-ids}
use Rattle.dir_sectors.specs.Dir.{dir_changed, dir_ids}
use Rattle.dir_sectors.specs.DirLaws.{none-turned, turned-ids}
use Rattle.dir_sectors.proofs.dir.Goals as goal

pub returns-in_err-turns : goal.returns-in_err-turns
unfolding dir_changed dir_ids
returns-in_err-turns c =
    let t = c.in_err-turns.ensures in
    let p = c.from_residual.ensures.1 in
    record {
      number = told-err _ _ p ∙ t.number;
      changed = simp t.refused (value-err _ _ _ p);
      table = simp t.refused (sym (same-ids c.args.files.now));
    }

pub returns-then-not-turns : goal.returns-then-not-turns
unfolding dir_changed dir_ids
returns-then-not-turns c =
    let fs = c.args.files.now in
    let t = c.in_ok-turns.ensures in
    let none = sym t.some-turn ∙ not-true _ c.if-not-turns.true in
    record {
      number = sym t.taken;
      changed = simp (t.taken, none);
      table = simp t.taken (sym (ap (with_ids fs) (none-turned _ c.args.fat.now c.args.area.now c.args.st.now none) ∙ same-ids fs));
    }

pub mark_rows-requires : goal.mark_rows-requires
mark_rows-requires c = (c.requires.0, c.in_ok-turns.ensures.begins, c.in_ok-turns.ensures.ends)

pub returns : goal.returns
unfolding dir_changed dir_ids
returns c =
    let fs = c.args.files.now in
    let t = c.in_ok-turns.ensures in
    record {
      number = sym t.taken;
      changed = simp (t.taken, sym t.some-turn ∙ not-false _ c.if-not-turns.false);
      table = simp t.taken (c.mark_rows.ensures ∙ ap (with_ids fs) (turned-ids _ _ _ _ _ t.marks (omega (arith, length-map fs id_of, c.requires.0))));
    }
