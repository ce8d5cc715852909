use Prim.Native.Nat.{ℕ}
use mathlib.Core.Path.{◌≡◌, sym, ◌∙◌}
use lib.ListN.{length-set, length-replicate}
use Rattle.std.proofs.lemmas.List.{length-map}
use Rattle.loops.specs.Loops.{all-start, all-go, all-stop, all-end}
use Rattle.loops.specs.Sought.{sought-start, sought-here, sought-on, sought-end}
use Rattle.loops.specs.Marks.{marks-none, marks-keep, marks-put}
use Rattle.file_table.specs.Files.{id_of}
use Rattle.file_table.specs.Table.{max_files}
use Rattle.dir_sectors.specs.Dir.{is_found, dir_number}
use Rattle.dir_sectors.specs.DirLaws.{turn-passes, dates-pass, turned_by-lt, same-turns-none, same-passes}
use Rattle.dir_sectors.proofs.MarkLaws.{begins-none, begins-put, ends-none, ends-put}
use native.Mathlib.Omega.{arith}
use Rattle.dir_sectors.proofs.turns.slot_turns.Goals as goal

pub loop-i-init : goal.loop-i-init
loop-i-init c = (length-replicate {A = ℕ} max_files 0, marks-none _ max_files, all-start _ _, begins-none max_files, ends-none max_files, sought-start _ _)

pub loop-i-preserved-then-same_slot : goal.loop-i-preserved-then-same_slot
unfolding is_found
loop-i-preserved-then-same_slot c =
    let v = c.loop-i.invariant in
    let h = c.loop-i-test.true in
    let q = sym c.same_slot.ensures ∙ c.if-same_slot.true in
    let e = same-turns-none _ _ q in
    (v.0, marks-keep _ _ _ _ v.1 e, all-go _ _ _ _ v.2 h (same-passes _ _ q), v.3, v.4, sought-on _ _ _ _ _ v.5 h (rw e))

pub turned_by-requires : goal.turned_by-requires
turned_by-requires c = (c.requires.1, c.loop-i-test.true)

pub bounds-rows-j : goal.bounds-rows-j
bounds-rows-j c = omega (arith, turned_by-lt _ _ _ (sym c.turned_by.ensures ∙ c.in-Some.is), length-map c.args.files.now id_of, c.requires.0)

pub overflow_add-j : goal.overflow_add-j
overflow_add-j c = omega (arith, turned_by-lt _ _ _ (sym c.turned_by.ensures ∙ c.in-Some.is), length-map c.args.files.now id_of, c.requires.0)

pub returns-then-not-dates_only : goal.returns-then-not-dates_only
unfolding dir_number
returns-then-not-dates_only c =
    let e = sym c.turned_by.ensures ∙ c.in_default.is in
    let a = all-stop _ _ _ _ c.loop-i.invariant.2 c.loop-i-test.true (dates-pass _ _ e ∙ sym c.dates_only.ensures ∙ c.if-not-dates_only.true) in
    record { number = rw (← a); refused = rw (← a) }

pub loop-i-preserved-in_default : goal.loop-i-preserved-in_default
unfolding is_found
loop-i-preserved-in_default c =
    let v = c.loop-i.invariant in
    let h = c.loop-i-test.true in
    let e = sym c.turned_by.ensures ∙ c.in_default.is in
    (v.0, marks-keep _ _ _ _ v.1 e, all-go _ _ _ _ v.2 h (dates-pass _ _ e ∙ sym c.dates_only.ensures ∙ c.if-not-dates_only.false), v.3, v.4, sought-on _ _ _ _ _ v.5 h (rw e))

pub loop-i-preserved : goal.loop-i-preserved
unfolding is_found
loop-i-preserved c =
    let v = c.loop-i.invariant in
    let h = c.loop-i-test.true in
    let e = sym c.turned_by.ensures ∙ c.in-Some.is in
    let l = turned_by-lt _ _ _ e in (
      simp length-set v.0,
      marks-put _ _ _ _ v.1 _ (omega (arith, l, length-map c.args.files.now id_of, c.requires.0, v.0)) e,
      all-go _ _ _ _ v.2 h (turn-passes _ _ _ e),
      begins-put _ _ _ _ v.3 (omega (arith, c.min-from.ensures)) (omega (arith, c.min-from.ensures)),
      ends-put _ _ _ _ v.4 (omega (arith, c.max-end.ensures)) (omega (arith, c.max-end.ensures)),
      sought-here _ _ _ _ _ v.5 h (rw e),
    )

pub returns : goal.returns
unfolding dir_number
returns c =
    let e : c.loop-i.i ≡ 16 = omega arith in
    let a = all-end _ _ _ _ c.loop-i.invariant.2 c.loop-i-test.false in
    record { taken = rw (← a); some-turn = sought-end _ _ _ _ _ c.loop-i.invariant.5 c.loop-i-test.false; marks = rw e at c.loop-i.invariant.1; begins = c.loop-i.invariant.3; ends = c.loop-i.invariant.4 }
