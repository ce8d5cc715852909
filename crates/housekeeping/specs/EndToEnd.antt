-- The ten prefixes as the code holds them, end to end.
use Rattle.std.specs.Prelude.{ℕ, List}
use Rattle.slots.specs.Text.{text}

unfoldable pub prefix_bytes : List ℕ
prefix_bytes = text ".trash._.ds_store.fseventsd.spotlight-v100.temporaryitems.metadata_never_index.com.apple.system volume information$recycle.bin"
