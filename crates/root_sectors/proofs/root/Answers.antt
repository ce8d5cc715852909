use mathlib.Core.Path.{◌≡◌, refl, sym, ap, ◌∙◌}
use Rattle.std.specs.Prelude.{false, eqb}
use Rattle.refusals.specs.Refusals.{number_of}
use Rattle.state.specs.Setters.{with_rec}
use Rattle.root_sectors.specs.Root.{root_in, root_number, root_changed, root_state, kept_at}
use Rattle.root_sectors.specs.Records.{root_records}
use Rattle.root_sectors.proofs.StateLaws.{state-records}
use Rattle.refusals.proofs.Numbers.{number-not-0, told-err, value-err}
use Rattle.root_sectors.proofs.root.Goals as goal

pub returns-in_err-judge : goal.returns-in_err-judge
unfolding root_changed root_state
returns-in_err-judge c =
    let a = c.args in
    let b = c.table_for.ensures in
    let x = root_in a.files.now a.w.now a.s a.sectors.shown.now a.sectors.written.now in
    let n : number_of c.in_err-judge.field-0.0 ≡ root_number x = rw (b.same_rows, b.same_first) at c.in_err-judge.ensures in
    let e : eqb (root_number x) 0 ≡ false = rw (← n) (number-not-0 _) in
    let p = c.from_residual.ensures.1 in
    record { number = told-err _ _ p ∙ n; changed = simp e (value-err _ _ _ p); state = simp e }

pub returns : goal.returns
unfolding root_changed root_records kept_at with_rec
returns c =
    let a = c.args in
    let b = c.table_for.ensures in
    let x = root_in a.files.now a.w.now a.s a.sectors.shown.now a.sectors.written.now in
    let n : 0 ≡ root_number x = rw (b.same_rows, b.same_first) at c.in_ok-judge.ensures in
    let k = c.keep_slots.ensures in
    record {
      number = n;
      changed = simp (← n) k.any;
      state = ap (with_rec a.w.now) (simp (← n) k.records) ∙ sym (state-records x a.w.now refl);
    }
