use borrow.Author.Tests.{lt-ltb, le-ltb, not-false}
use Rattle.body.specs.Body.{body_of}
use Rattle.body.specs.LoopLaws.{found-holds}
use Rattle.body.proofs.body.Goals as goal

pub returns-then-size-lt128 : goal.returns-then-size-lt128
unfolding body_of
returns-then-size-lt128 c = let q = lt-ltb _ _ c.if-size-lt128.true in record { number = rw q; valid = rw q }

pub returns-then-not-chain : goal.returns-then-not-chain
unfolding body_of
returns-then-not-chain c =
    let q = le-ltb _ _ c.if-size-lt128.false in
    record { number = rw (q, ← c.complete-chain.ensures, c.if-not-chain.true); valid = rw (q, ← c.complete-chain.ensures, c.if-not-chain.true) }

pub check-requires : goal.check-requires
check-requires c =
    (c.if-size-lt128.false, rw c.complete-chain.ensures (found-holds _ _ _ _ (rw (← c.complete-chain.ensures) (not-false _ c.if-not-chain.false))))

pub returns : goal.returns
unfolding body_of
returns c =
    let q = le-ltb _ _ c.if-size-lt128.false in
    record { number = rw (q, ← c.complete-chain.ensures, c.if-not-chain.false); valid = rw (q, ← c.complete-chain.ensures, c.if-not-chain.false) c.check.ensures }
