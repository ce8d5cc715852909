-- The characters that a name holds.
use Rattle.std.specs.Prelude.{ℕ, List, take}
use Rattle.names.specs.declared.text.Name.{Name}

unfoldable pub held : Name → List ℕ
held name = take name.len name.chars
