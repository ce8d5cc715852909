use Rattle.names.specs.TextLaws.{name-none, name-short, name-long}
use borrow.Author.Rules.{rules}
use Rattle.names.proofs.text.name_by.Goals as goal

pub returns-then-m-eq0 : goal.returns-then-m-eq0
returns-then-m-eq0 c = (c.short_text.ensures.0, name-none _ _ _ _ _ c.if-m-eq0.true _ c.short_text.ensures.1)

pub returns-then-n-eq0 : goal.returns-then-n-eq0
returns-then-n-eq0 c =
    let l = c.long_text-long in
    (c.short_text-then-n-eq0.ensures.0, name-short _ _ _ _ _ l.result (search rules) l.ensures.0 l.ensures.1 c.if-n-eq0.true _ c.short_text-then-n-eq0.ensures.1)

pub returns : goal.returns
returns c = let l = c.long_text-long in (l.ensures.0, name-long _ _ _ _ _ l.result (search rules) l.ensures.0 l.ensures.1 c.if-n-eq0.false)
