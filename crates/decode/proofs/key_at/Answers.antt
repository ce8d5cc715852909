use Rattle.std.proofs.Common.{le-ltb, lt-ltb}
use Rattle.decode.specs.Decode.{key_at}
use Rattle.decode.proofs.key_at.Goals as goal

pub returns-then-a-lt128 : goal.returns-then-a-lt128
unfolding key_at
returns-then-a-lt128 c = simp (lt-ltb _ _ c.if-a-lt128.true)

pub returns : goal.returns
unfolding key_at
returns c = simp (le-ltb _ _ c.if-a-lt128.false)
