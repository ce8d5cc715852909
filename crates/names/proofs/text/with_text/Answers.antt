use lib.ListN.{length-set}
use mathlib.Core.Path.{sym, ◌∙◌, ap}
use Rattle.names.specs.Names.{shown_char}
use Rattle.names.specs.Held.{held}
use Rattle.names.specs.TextLaws.{text_len-le, held-le, push-full, push-room, text-start, text-more, text-end}
use native.Mathlib.Omega.{arith}
use borrow.Author.Rules.{rules}
use Rattle.names.proofs.text.with_text.Goals as goal

pub loop-i-init : goal.loop-i-init
loop-i-init c = (c.requires, search rules, text-start _ _ (held c.args.name) c.text_len-n.ensures)

pub returns-then-k-ge32 : goal.returns-then-k-ge32
unfolding held
returns-then-k-ge32 c = let v = c.loop-i.invariant in (v.0, push-full c.loop-i.out.chars c.loop-i.out.len v.1 v.0 _ c.if-k-ge32.true ∙ sym v.2)

pub char_at-requires : goal.char_at-requires
char_at-requires c = omega (arith, c.text_len-n.ensures, text_len-le c.args.entry.now)

pub loop-i-preserved : goal.loop-i-preserved
unfolding held
loop-i-preserved c =
    let o = c.loop-i.out in
    let v = c.loop-i.invariant in
    let here = push-room o.chars o.len v.1 v.0 _ _ (c.shown_char.ensures ∙ ap shown_char c.char_at.ensures) c.if-k-ge32.false in
    (omega arith, simp length-set v.1, text-more _ _ _ _ (held o) v.2 _ (omega arith) here)

pub returns : goal.returns
returns c = let v = c.loop-i.invariant in (v.0, text-end _ _ _ _ (held c.loop-i.out) v.2 (omega arith) (held-le c.loop-i.out v.0))
