-- Inner. The entries that a table in work holds.
use Rattle.std.specs.Prelude.{List, take}
use Rattle.objects.specs.declared.Object.{Object}
use Rattle.objects_apply.specs.declared.table.Table.{Table}

abbrev pub held : Table → List Object
held t = take t.len t.entries
