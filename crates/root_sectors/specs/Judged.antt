-- The sector that the code's own struct stands for.
use Rattle.std.specs.Prelude.{map}
use Rattle.file_table.specs.Files.{id_of, start_of, size_of}
use Rattle.root_sectors.specs.declared.judged.RootSector.{RootSector}
use Rattle.root_sectors.specs.Root.{RootWrite, root_write}

abbrev pub judged_as : RootSector → RootWrite
judged_as x =
    root_write (map id_of x.files.rows.now) (map start_of x.files.rows.now) (map size_of x.files.rows.now) x.files.first x.pair.now x.rec.now x.s
    x.sectors.shown.now x.sectors.written.now
