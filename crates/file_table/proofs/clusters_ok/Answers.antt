use mathlib.Core.Path.{sym, ◌∙◌}
use borrow.Author.Tests.{lt-leb, le-leb}
use Rattle.file_table.specs.Table.{clusters_fit, first_fits}
use Rattle.file_table.proofs.clusters_ok.Goals as goal

pub returns-then-not-rising : goal.returns-then-not-rising
unfolding clusters_fit
returns-then-not-rising c = simp (sym c.rising.ensures ∙ c.if-not-rising.true)

pub starts_apart-requires : goal.starts_apart-requires
starts_apart-requires c = sym c.rising.ensures ∙ c.if-not-rising.false

pub returns-then-not-starts_apart : goal.returns-then-not-starts_apart
unfolding clusters_fit
returns-then-not-starts_apart c = simp (sym c.rising.ensures ∙ c.if-not-rising.false, sym c.starts_apart.ensures ∙ c.if-not-starts_apart.true)

pub returns-then-first-lt7 : goal.returns-then-first-lt7
unfolding clusters_fit first_fits
returns-then-first-lt7 c = simp (sym c.rising.ensures ∙ c.if-not-rising.false, sym c.starts_apart.ensures ∙ c.if-not-starts_apart.false, lt-leb _ _ c.if-first-lt7.true)

pub returns-then-first-gt65002 : goal.returns-then-first-gt65002
unfolding clusters_fit first_fits
returns-then-first-gt65002 c = simp (
  sym c.rising.ensures ∙ c.if-not-rising.false,
  sym c.starts_apart.ensures ∙ c.if-not-starts_apart.false,
  le-leb _ _ c.if-first-lt7.false,
  lt-leb _ _ c.if-first-gt65002.true,
)

pub returns : goal.returns
unfolding clusters_fit first_fits
returns c = simp (
  sym c.rising.ensures ∙ c.if-not-rising.false,
  sym c.starts_apart.ensures ∙ c.if-not-starts_apart.false,
  le-leb _ _ c.if-first-lt7.false,
  le-leb _ _ c.if-first-gt65002.false,
  ← c.all_in.ensures,
)
