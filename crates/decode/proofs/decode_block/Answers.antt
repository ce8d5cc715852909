use Rattle.std.proofs.Common.{le-ltb, lt-ltb, le-leb}
use borrow.Author.Tests.{lt-leb}
use Rattle.decode.specs.Decode.{decodes, decoded}
use Rattle.decode.proofs.decode_block.Goals as goal

pub returns-then-p-le-ADD : goal.returns-then-p-le-ADD
unfolding decodes decoded
returns-then-p-le-ADD c = let e = le-leb _ _ c.if-p-le-ADD.true in record { answer = simp e; bytes = simp e }

pub returns-then-p-kp : goal.returns-then-p-kp
unfolding decodes decoded
returns-then-p-kp c =
    let e = lt-leb _ _ c.if-p-le-ADD.false in
    let f = le-ltb _ _ c.if-p-kp.true in
    record { answer = simp (e, ← c.key_at-kp.ensures, f); bytes = simp (e, ← c.key_at-kp.ensures, f) }

pub returns : goal.returns
unfolding decodes decoded
returns c =
    let e = lt-leb _ _ c.if-p-le-ADD.false in
    let f = lt-ltb _ _ c.if-p-kp.false in
    record { answer = simp (e, ← c.key_at-kp.ensures, f); bytes = simp (e, ← c.key_at-kp.ensures, f) c.decode_bytes.ensures }
