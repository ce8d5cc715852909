use mathlib.Core.Path.{sym}
use native.Mathlib.Omega.{arith}
use Rattle.file_table.specs.TableLaws.{clusters_in-none, clusters_in-low, clusters_in-ends}
use Rattle.file_table.proofs.clusters_in.Goals as goal

pub returns-then-n-eq0 : goal.returns-then-n-eq0
returns-then-n-eq0 c = sym (clusters_in-none _ _ _ c.if-n-eq0.true)

pub returns-then-start-first : goal.returns-then-start-first
returns-then-start-first c = sym (clusters_in-low _ _ _ (omega arith) c.if-start-first.true)

pub returns : goal.returns
returns c = clusters_in-ends _ _ _ (omega arith) c.if-start-first.false
