use native.Mathlib.Omega.{arith}
use borrow.Author.Tests.{lt-ltb, le-ltb}
use Rattle.vdisk.specs.Owner.{owner_of}
use Rattle.vdisk.specs.OwnerLaws.{up_to-le}
use mathlib.Core.List.{map}
use Rattle.std.proofs.lemmas.List.{length-map}
use Rattle.file_table.specs.Files.{start_of}
use Rattle.file_table.proofs.owner.Files.owner.Goals as goal

pub returns-then-c-lt2 : goal.returns-then-c-lt2
unfolding owner_of
returns-then-c-lt2 c = simp (lt-ltb _ _ c.if-c-lt2.true)

pub returns-then-c : goal.returns-then-c
unfolding owner_of
returns-then-c c = simp (le-ltb _ _ c.if-c-lt2.false, lt-ltb 65001 c.args.c (omega arith))

pub returns-then-c-self : goal.returns-then-c-self
unfolding owner_of
returns-then-c-self c = simp (le-ltb _ _ c.if-c-lt2.false, le-ltb 65001 c.args.c (omega arith), lt-ltb _ _ c.if-c-self.true)

pub owner_at-requires : goal.owner_at-requires
owner_at-requires c = rw c.up_to.ensures (omega (arith, up_to-le (map start_of c.args.self.now.rows.now) c.args.c, length-map c.args.self.now.rows.now start_of))

pub returns : goal.returns
unfolding owner_of
returns c = simp (le-ltb _ _ c.if-c-lt2.false, le-ltb 65001 c.args.c (omega arith), le-ltb _ _ c.if-c-self.false, ← c.up_to.ensures) c.owner_at.ensures
