use borrow.Author.Tests.{lt-ltb}
use native.Mathlib.Omega.{arith}
use Prim.Native.Nat.{◌%◌}
use mathlib.Core.Path.{◌≡◌}
use Rattle.loops.specs.Tests.{tests}
use Rattle.names.specs.Names.{shown_char}
use Rattle.names.proofs.text.shown_char.Goals as goal

pub returns-then-c-lt128 : goal.returns-then-c-lt128
unfolding shown_char
returns-then-c-lt128 c =
    let ch = c.args.c in
    let e : ch % 256 ≡ ch = omega arith in
    simp (lt-ltb ch 0x80 (omega arith)) (rw e at c.lower.ensures)

pub returns : goal.returns
unfolding shown_char
returns c = search tests
