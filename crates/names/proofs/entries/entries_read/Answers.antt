use mathlib.Core.Path.{refl, sym, ◌∙◌}
use Rattle.names.specs.NameLaws.{read-low, read-short, read-other, read-ended, read-marked, read-next, read-end}
use native.Mathlib.Omega.{arith}
use Rattle.names.proofs.entries.entries_read.Goals as goal

pub returns-then-k-le7 : goal.returns-then-k-le7
returns-then-k-le7 c = read-low _ _ _ _ _ refl c.loop-seq.invariant (omega arith) c.if-k-le7.true

pub returns-then-not-is_long : goal.returns-then-not-is_long
returns-then-not-is_long c = read-short _ _ _ _ _ c.entry_at-entry.ensures c.loop-seq.invariant (omega arith) (sym c.is_long.ensures ∙ c.if-not-is_long.true)

pub returns-then-entry-seq : goal.returns-then-entry-seq
returns-then-entry-seq c = read-other _ _ _ _ _ c.entry_at-entry.ensures c.loop-seq.invariant (omega arith) c.if-entry-seq.true

pub returns-then-text_len-lt13 : goal.returns-then-text_len-lt13
returns-then-text_len-lt13 c =
    read-ended _ _ _ _ _ c.entry_at-entry.ensures c.loop-seq.invariant (omega arith)
    c.if-k-le7.false (sym c.is_long.ensures ∙ c.if-not-is_long.false) c.if-entry-seq.false (rw c.text_len.ensures at c.if-text_len-lt13.true)

pub returns-then-test_u16 : goal.returns-then-test_u16
returns-then-test_u16 c =
    read-marked _ _ _ _ _ c.entry_at-entry.ensures c.loop-seq.invariant (omega arith)
    c.if-k-le7.false (sym c.is_long.ensures ∙ c.if-not-is_long.false) c.if-entry-seq.false (sym c.test_u16.ensures ∙ c.if-test_u16.true)

pub loop-seq-preserved : goal.loop-seq-preserved
loop-seq-preserved c =
    read-next _ _ _ _ _ c.entry_at-entry.ensures c.loop-seq.invariant (omega arith)
    c.if-k-le7.false (sym c.is_long.ensures ∙ c.if-not-is_long.false) c.if-entry-seq.false (rw c.text_len.ensures at c.if-text_len-lt13.false) (sym c.test_u16.ensures ∙ c.if-test_u16.false)

pub returns : goal.returns
returns c = read-end _ _ _ _ c.loop-seq.invariant (omega arith)
