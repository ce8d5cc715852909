use Prim.Native.Nat.{◌+◌, ◌-◌, ◌*◌}
use mathlib.Core.Path.{◌≡◌, ◌∙◌}
use borrow.Author.Tests.{lt-ltb, le-ltb, le-leb, lt-leb}
use native.Mathlib.Omega.{arith}
use Rattle.names.specs.Names.{entry_of}
use Rattle.names.proofs.entries.entry_at.Goals as goal

pub returns-then-k-base : goal.returns-then-k-base
unfolding entry_of
returns-then-k-base c = simp (lt-leb _ _ c.if-k-base.true) (c.unwrap_or.ensures ∙ c.root_rec.ensures.bytes)

pub returns-then-i-ge16 : goal.returns-then-i-ge16
unfolding entry_of
returns-then-i-ge16 c =
    simp (le-leb _ _ c.if-k-base.false, le-ltb c.args.k (c.args.base + 16) (omega arith)) (c.unwrap_or-then-i-ge16.ensures ∙ c.root_rec-then-i-ge16.ensures.bytes)

pub returns : goal.returns
unfolding entry_of
returns c =
    let at = (c.args.k - c.args.base) * 32 in
    let n : at + 32 - at ≡ 32 = omega arith in
    simp (le-leb _ _ c.if-k-base.false, lt-ltb c.args.k (c.args.base + 16) (omega arith)) (c.copy_from_slice.ensures.after ∙ rw n)
