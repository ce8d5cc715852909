use Rattle.names.specs.Held.{held}
use Rattle.names.specs.TextLaws.{push-room, short-plain, short-dotted}
use lib.ListN.{take}
use mathlib.Core.Path.{refl}
use native.Mathlib.Omega.{arith}
use Rattle.names.proofs.text.short_text.Goals as goal

pub returns-then-sector-dot-eq32 : goal.returns-then-sector-dot-eq32
unfolding held
returns-then-sector-dot-eq32 c = let p = c.put_part-n.ensures in (p.room.0, short-plain _ _ _ p.text c.if-sector-dot-eq32.true)

pub returns : goal.returns
unfolding held
returns c =
    let n = c.put_part-n in
    let p = n.ensures in
    let dot = push-room n.new.chars n.result p.room.2 p.room.0 _ _ refl (omega arith) in
    (c.put_part-m.ensures.room.0, short-dotted _ _ (take n.result n.new.chars) p.text _ _ c.if-sector-dot-eq32.false dot c.put_part-m.ensures.text)
