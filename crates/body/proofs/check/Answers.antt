use Prim.Native.Nat.{◌+◌, ◌-◌, ◌*◌, ◌%◌, min}
use mathlib.Core.Path.{◌≡◌, refl, sym, ◌∙◌}
use native.Mathlib.Omega.{arith}
use lib.ListN.{length}
use Rattle.body.specs.LoopLaws.{check-start, check-stop, check-more, check-length, check-end, part-back, put-length}
use Rattle.body.proofs.check.Goals as goal

pub loop-q-init : goal.loop-q-init
loop-q-init c = (refl, check-start _ _ _ _ _ _)

pub returns-then-not-decode_block : goal.returns-then-not-decode_block
returns-then-not-decode_block c =
    let k : c.loop-q.q % 4 * 128 + c.min.result - c.loop-q.q % 4 * 128 ≡ min (c.args.size - c.loop-q.q * 128) 128 = omega (arith, c.min.ensures) in
    check-stop _ _ _ _ _ c.requires.1 _ _ _ c.loop-q.invariant.1 c.loop-q-test.true _ c.read_first.ensures _ k (sym c.decode_block.ensures.answer ∙ c.if-not-decode_block.true)

pub loop-q-preserved : goal.loop-q-preserved
loop-q-preserved c =
    let k : c.loop-q.q % 4 * 128 + c.min.result - c.loop-q.q % 4 * 128 ≡ min (c.args.size - c.loop-q.q * 128) 128 = omega (arith, c.min.ensures) in
    let n : length c.read_first.new.sec ≡ 512 = omega (arith, c.loop-q.invariant.0) in (
      put-length _ _ _ _ _ c.requires.1 _ _ _ c.loop-q.invariant.1 c.loop-q-test.true _ c.read_first.ensures _ k _ c.decode_block.ensures.bytes n,
      check-more _ _ _ _ _ c.requires.1 _ _ _ c.loop-q.invariant.1 c.loop-q-test.true _ c.read_first.ensures _ k _ c.decode_block.ensures.bytes n (sym c.decode_block.ensures.answer
          ∙ c.if-not-decode_block.false) _
          (rw (← part-back _ _ _ _ _ c.requires.1 _ _ _ c.loop-q.invariant.1 c.loop-q-test.true _ c.read_first.ensures _ k _ c.decode_block.ensures.bytes n) c.summed_up-sum.ensures),
    )

pub returns-then-sum-size : goal.returns-then-sum-size
returns-then-sum-size c = check-length _ _ _ _ _ c.requires.1 _ _ _ c.loop-q.invariant.1 (omega (arith, c.loop-q-test.false)) c.if-sum-size.true

pub returns : goal.returns
returns c = check-end _ _ _ _ _ c.requires.1 _ _ _ c.loop-q.invariant.1 (omega (arith, c.loop-q-test.false)) c.if-sum-size.false
