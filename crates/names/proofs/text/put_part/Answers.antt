use Prim.Native.Nat.{◌-◌}
use lib.ListN.{take, drop}
use mathlib.Core.Path.{sym, ◌∙◌}
use native.Mathlib.Omega.{arith}
use borrow.Author.Rules.{rules}
use Rattle.names.specs.TextLaws.{held-length, push-full, push-room, part-blank, part-more, part-end}
use Rattle.names.proofs.text.put_part.Goals as goal

pub loop-c-preserved-then-c-eq32 : goal.loop-c-preserved-then-c-eq32
loop-c-preserved-then-c-eq32 c =
    let l = c.loop-c in
    let v = l.invariant in
    let a = c.args in
    (omega arith, omega arith, omega arith, part-blank (take (a.end - a.at) (drop a.at a.bytes.now)) l.c-index _ (take l.m l.chars) v.3 c.loop-c-test.true c.if-c-eq32.true)

pub returns-then-m-ge32 : goal.returns-then-m-ge32
returns-then-m-ge32 c =
    let l = c.loop-c in
    let v = l.invariant in
    record { room = (omega arith, omega arith, omega arith); text = push-full l.chars l.m v.2 v.0 _ c.if-m-ge32.true ∙ sym v.3 }

pub loop-c-preserved : goal.loop-c-preserved
loop-c-preserved c =
    let l = c.loop-c in
    let v = l.invariant in
    let a = c.args in
    let here = push-room l.chars l.m v.2 v.0 _ _ c.lower.ensures c.if-m-ge32.false in
    let more = part-more (take (a.end - a.at) (drop a.at a.bytes.now)) l.c-index _ (take l.m l.chars) v.3 _ c.loop-c-test.true c.if-c-eq32.false here in
    (omega arith, omega arith, search rules, more)

pub returns : goal.returns
returns c =
    let l = c.loop-c in
    let v = l.invariant in
    let a = c.args in
    let m = held-length l.chars l.m v.2 v.0 in
    record {
      room = (omega arith, omega arith, omega arith);
      text = part-end (take (a.end - a.at) (drop a.at a.bytes.now)) l.c-index _ (take l.m l.chars) v.3 c.loop-c-test.false (omega (arith, m));
    }
