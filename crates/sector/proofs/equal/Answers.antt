use native.Mathlib.Omega.{arith}
use borrow.Author.Rules.{rules}
use Rattle.std.proofs.Common.{length-append}
use Rattle.std.proofs.lemmas.Slice.Zip.{zip_turn, zip_end}
use Rattle.sector.specs.Bytes.{same}
use Rattle.sector.specs.Laws.{gather-start, gather-go, gather-end, xor-eqb}
use Rattle.sector.proofs.equal.Goals as goal

pub loop-x-init : goal.loop-x-init
loop-x-init c = gather-start _ _

pub loop-x-preserved : goal.loop-x-preserved
loop-x-preserved c =
    let s = c.loop-x in
    let t = zip_turn c.args.a.now c.args.b.now s.yielded c.into_iter-x-iterator.result s.x-iterator c.next.new.self c.next.result
    (search rules) (search rules) s.yielded_by (c.in-Some.x, c.in-Some.y) c.in-Some.is c.next.ensures.steps in
    simp (length-append, t.2 0, t.3 0) (gather-go _ _ _ _ _ s.invariant _ (omega arith) (xor-eqb _ _))

pub returns : goal.returns
unfolding same
returns c =
    let s = c.loop-x in
    let e = zip_end c.args.a.now c.args.b.now s.yielded c.into_iter-x-iterator.result s.x-iterator c.next.new.self c.next.result
    (search rules) (search rules) s.yielded_by c.in-None.is c.next.ensures.steps in
    gather-end _ _ _ _ _ s.invariant (omega arith)
