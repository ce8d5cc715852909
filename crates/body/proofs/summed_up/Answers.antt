use Rattle.body.specs.Summed.{summed}
use native.Mathlib.Omega.{arith}
use borrow.Author.Tests.{eq-eqb, ne_eqb}
use Rattle.body.proofs.summed_up.Goals as goal

pub returns-then-at-ne0 : goal.returns-then-at-ne0
unfolding summed
returns-then-at-ne0 c = rw (ne_eqb _ _ c.if-at-ne0.true, c.covered_crc-crc.ensures)

pub le32-word1-requires : goal.le32-word1-requires
le32-word1-requires c = let q = c.requires c.if-at-ne0.false in omega arith

pub le32-word2-requires : goal.le32-word2-requires
le32-word2-requires c = let q = c.requires c.if-at-ne0.false in omega arith

pub returns : goal.returns
unfolding summed
returns c = rw (eq-eqb _ _ c.if-at-ne0.false, c.covered_crc-crc.ensures, c.le32-word1.ensures, c.le32-word2.ensures)
