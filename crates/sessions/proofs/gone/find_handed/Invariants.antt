use Rattle.std.proofs.Common.{◌≡◌, map, length}
use Rattle.loops.specs.Found.{find, find_from}
use Rattle.file_table.specs.Files.{id_of}
use Rattle.sessions.specs.SessionLaws.{handed_at}
use Rattle.sessions.proofs.gone.find_handed.Given as goal

abbrev pub invariant-loop-j : goal.invariant-loop-j
invariant-loop-j l = find (handed_at (map id_of l.files)) (length l.files) ≡ find_from (handed_at (map id_of l.files)) (length l.files) l.j
