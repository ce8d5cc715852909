use mathlib.Core.Path.{◌≡◌}
use lib.ListN.{length}
use native.Mathlib.Omega.{arith}
use borrow.Author.Tests.{eq-eqb, ne_eqb}
use Rattle.release.specs.Undecided.{is_decided}
use borrow.Author.Rules.{rules}
use Rattle.release.proofs.undecided.is_decided.Goals as goal

pub returns-then-r-d : goal.returns-then-r-d
unfolding is_decided
returns-then-r-d c = simp (ne_eqb _ _ c.if-r-d.true)

pub start-requires : goal.start-requires
start-requires c = let q : length c.args.r.e ≡ 32 = search rules in omega arith

pub returns-then-start-d : goal.returns-then-start-d
unfolding is_decided
returns-then-start-d c = simp (eq-eqb _ _ c.if-r-d.false, ← c.start.ensures, ne_eqb _ _ c.if-start-d.true)

pub size-requires : goal.size-requires
size-requires c = let q : length c.args.r.e ≡ 32 = search rules in omega arith

pub returns-then-size-d : goal.returns-then-size-d
unfolding is_decided
returns-then-size-d c = simp (eq-eqb _ _ c.if-r-d.false, ← c.start.ensures, eq-eqb _ _ c.if-start-d.false, ← c.size.ensures, ne_eqb _ _ c.if-size-d.true)

pub returns : goal.returns
unfolding is_decided
returns c = simp (eq-eqb _ _ c.if-r-d.false, ← c.start.ensures, eq-eqb _ _ c.if-start-d.false, ← c.size.ensures, eq-eqb _ _ c.if-size-d.false)
