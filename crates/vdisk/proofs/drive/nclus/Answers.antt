use Rattle.vdisk.specs.Drive.{clusters_of}
use borrow.Author.Rules.{rules}
use Rattle.vdisk.proofs.drive.nclus.Goals as goal

pub returns-then-size-eq0 : goal.returns-then-size-eq0
unfolding clusters_of
returns-then-size-eq0 c = search rules

pub returns : goal.returns
unfolding clusters_of
returns c = search rules
