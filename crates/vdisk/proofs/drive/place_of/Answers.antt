use mathlib.Core.Path.{sym}
use native.Mathlib.Omega.{arith}
use borrow.Author.Tests.{eq-eqb}
use Rattle.vdisk.specs.DriveLaws.{place-fat, place-root, place-data, place-outside}
use Rattle.vdisk.specs.Drive.{place_of}
use Rattle.vdisk.proofs.drive.place_of.Goals as goal

pub returns-then-lba-lt-FAT_START : goal.returns-then-lba-lt-FAT_START
unfolding place_of
returns-then-lba-lt-FAT_START c = simp (eq-eqb c.args.lba 0 (omega arith))

pub returns-then-lba-lt-ROOT_START : goal.returns-then-lba-lt-ROOT_START
returns-then-lba-lt-ROOT_START c = sym (place-fat _ (omega arith) (omega arith))

pub returns-then-lba-lt-DATA_START : goal.returns-then-lba-lt-DATA_START
returns-then-lba-lt-DATA_START c = sym (place-root _ (omega arith) (omega arith))

pub returns-then-lba-ge-TOTAL : goal.returns-then-lba-ge-TOTAL
returns-then-lba-ge-TOTAL c = sym (place-outside _ (omega arith))

pub returns : goal.returns
returns c = sym (place-data _ (omega arith) (omega arith))
