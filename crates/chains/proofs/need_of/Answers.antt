use Prim.Native.Nat.{ℕ, ◌-◌, min, ◌/◌, ◌+◌, ◌*◌, ◌<◌}
use mathlib.Core.Path.{◌≡◌, ap, ◌∙◌}
use native.Mathlib.Omega.{arith}
use lib.Dec.{lit<}
use lib.Pow.{pow_pos}
use Rattle.bits.specs.Laws.{one-shl}
use Rattle.chains.specs.Needed.{needed_at}
use Rattle.chains.proofs.need_of.Goals as goal

pub returns-then-secs-ge-SPC : goal.returns-then-secs-ge-SPC
unfolding needed_at
returns-then-secs-ge-SPC c = let z : (min (c.args.size - c.args.k * 32768) 32768 + 511) / 512 ≡ 64 = omega (arith, c.if-secs-ge-SPC.true, c.min.ensures) in rw z

pub overflow_sub-result : goal.overflow_sub-result
overflow_sub-result c = let h : (c.min.result + 511) / 512 < 64 = omega arith in rw (one-shl 64 _ h (lit< tt)) (pow_pos _)

pub returns : goal.returns
unfolding needed_at
returns c = let h : (c.min.result + 511) / 512 < 64 = omega arith in ap (λ (n : ℕ). n - 1) (one-shl 64 _ h (lit< tt)) ∙ rw c.min.ensures
