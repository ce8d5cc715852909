use mathlib.Core.Path.{◌∙◌, ap}
use native.Mathlib.Omega.{arith}
use borrow.Author.Tests.{eq-eqb, ne_eqb, le-leb, lt-leb, lt-ltb, le-ltb}
use Rattle.housekeeping.specs.Housekeeping.{is_housekeeping}
use Rattle.names.specs.Names.{strict_name}
use Rattle.names.specs.NameLaws.{entries_strict-le}
use Rattle.root_slots.specs.RootSlots.{strict_of}
use Rattle.root_slots.proofs.strict_name.Goals as goal

pub returns-in_default : goal.returns-in_default
unfolding strict_of
returns-in_default c = let e = ne_eqb _ _ c.in_default.ensures.cases in record { number = simp e; housekeeping = simp e }

pub returns-then-idx-ge512 : goal.returns-then-idx-ge512
unfolding strict_of
returns-then-idx-ge512 c =
    let e = eq-eqb _ _ c.in-Some.ensures.cases.long in
    let f = le-leb _ _ c.if-idx-ge512.true in
    record { number = simp (e, f); housekeeping = simp (e, f) }

pub returns-then-idx-lt7 : goal.returns-then-idx-lt7
unfolding strict_of
returns-then-idx-lt7 c =
    let e = eq-eqb _ _ c.in-Some.ensures.cases.long in
    let f = lt-leb _ _ c.if-idx-ge512.false in
    let g = lt-ltb _ _ c.if-idx-lt7.true in
    record { number = simp (e, f, g); housekeeping = simp (e, f, g) }

pub name_by-name-requires : goal.name_by-name-requires
name_by-name-requires c = (rw c.entries_strict.ensures (entries_strict-le _ _), omega arith, omega arith)

pub returns : goal.returns
unfolding strict_of strict_name
returns c =
    let w = c.in-Some.ensures.cases in
    let e = eq-eqb _ _ w.long in
    let f = lt-leb _ _ c.if-idx-ge512.false in
    let g = le-ltb _ _ c.if-idx-lt7.false in
    record {
      number = simp (e, f, g);
      housekeeping = simp (e, f, g, ← w.same) (c.is_housekeeping.ensures ∙ ap is_housekeeping (c.name_by-name.ensures.1 ∙ rw c.entries_strict.ensures));
    }
