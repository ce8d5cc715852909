-- A start takes the table of the setting, and not the other one: computed.
use Rattle.std.specs.Prelude.{true, false, ◌≡◌, refl}
use Rattle.file_table.specs.Table.{accepts}
use Rattle.demand3_examples.specs.Setting.{table, after}
use Rattle.demand3_examples.specs.Calls.{bad-table}

pub taken-table : accepts table ≡ true
unfolding after
taken-table = refl

pub bad-refused : accepts bad-table ≡ false
unfolding after
bad-refused = refl
