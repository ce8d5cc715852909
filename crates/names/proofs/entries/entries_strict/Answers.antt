use mathlib.Core.Path.{refl, sym, ◌∙◌}
use Rattle.names.specs.NameLaws.{strict-low, strict-short, strict-last, strict-other, strict-ended, strict-next, strict-end}
use native.Mathlib.Omega.{arith}
use Rattle.names.proofs.entries.entries_strict.Goals as goal

pub returns-then-k-le7 : goal.returns-then-k-le7
returns-then-k-le7 c = strict-low _ _ _ _ _ refl c.loop-seq.invariant (omega arith) c.if-k-le7.true

pub returns-then-not-is_long : goal.returns-then-not-is_long
returns-then-not-is_long c = strict-short _ _ _ _ _ c.entry_at-entry.ensures c.loop-seq.invariant (omega arith) (sym c.is_long.ensures ∙ c.if-not-is_long.true)

pub returns-then-ordinal-seq : goal.returns-then-ordinal-seq
returns-then-ordinal-seq c =
    strict-last _ _ _ _ _ c.entry_at-entry.ensures c.loop-seq.invariant (omega arith)
    c.if-k-le7.false (sym c.is_long.ensures ∙ c.if-not-is_long.false) c.if-ordinal-seq.true

pub returns-then-ordinal-seq-2 : goal.returns-then-ordinal-seq-2
returns-then-ordinal-seq-2 c =
    strict-other _ _ _ _ _ c.entry_at-entry.ensures c.loop-seq.invariant (omega arith)
    c.if-k-le7.false (sym c.is_long.ensures ∙ c.if-not-is_long.false) c.if-ordinal-seq.false c.if-ordinal-seq-2.true

pub returns-then-text_len-ne13 : goal.returns-then-text_len-ne13
returns-then-text_len-ne13 c =
    strict-ended _ _ _ _ _ c.entry_at-entry.ensures c.loop-seq.invariant (omega arith)
    c.if-k-le7.false (sym c.is_long.ensures ∙ c.if-not-is_long.false) c.if-ordinal-seq.false (rw c.text_len.ensures at c.if-text_len-ne13.true)

pub loop-seq-preserved : goal.loop-seq-preserved
loop-seq-preserved c =
    strict-next _ _ _ _ _ c.entry_at-entry.ensures c.loop-seq.invariant (omega arith)
    c.if-k-le7.false (sym c.is_long.ensures ∙ c.if-not-is_long.false) c.if-ordinal-seq.false c.if-ordinal-seq-2.false (rw c.text_len.ensures at c.if-text_len-ne13.false)

pub returns : goal.returns
returns c = strict-end _ _ _ _ c.loop-seq.invariant (omega arith)
