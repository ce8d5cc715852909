-- The parts of a file's id (document 01, "The drive").
use Rattle.std.specs.Prelude.{ℕ, ◌/◌, ◌%◌, Bool, not, ◌&&◌, eqb}
use Rattle.loops.specs.Loops.{pick}
use Rattle.bits.specs.Bit.{bit}

-- In `id` bits 0 to 9 are the number, 10 and 11 the kind
abbrev pub number_of : ℕ → ℕ
number_of id = id % 1024

abbrev pub kind_of : ℕ → ℕ
kind_of id = id / 1024 % 4

-- marks are 12 turned, 13 freed, 14 gone, 15 moved
abbrev pub turned : ℕ → Bool
turned id = bit id 12

abbrev pub freed : ℕ → Bool
freed id = bit id 13

abbrev pub gone : ℕ → Bool
gone id = bit id 14

abbrev pub moved : ℕ → Bool
moved id = bit id 15

-- A file is handed when turned and freed are set and gone isn't.
unfoldable pub handed : ℕ → Bool
handed id = turned id && freed id && not (gone id)

-- Unmarked: bits 12 to 15 are 0
unfoldable pub unmarked : ℕ → Bool
unmarked id = not (turned id) && not (freed id) && not (gone id) && not (moved id)

-- the id with bits 12 to 15 set to 0
abbrev pub cleared : ℕ → ℕ
cleared id = id % 4096

-- File kind 3 is shown in directory 0.
unfoldable pub dir_of : ℕ → ℕ
dir_of k = pick (eqb k 3) 0 k

-- the directory that shows the file
unfoldable pub id_dir_of : ℕ → ℕ
id_dir_of id = dir_of (kind_of id)

-- two files share kind and number
unfoldable pub same_name : ℕ → ℕ → Bool
same_name a b = eqb (kind_of a) (kind_of b) && eqb (number_of a) (number_of b)
