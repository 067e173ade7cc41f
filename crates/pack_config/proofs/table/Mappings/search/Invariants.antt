-- `Mappings::search` meets its contract. The loop keeps what is left: the name among the tags not yet passed is the name among all.
use Rattle.std.proofs.Common.{◌≡◌, take, drop}
use Rattle.pack.specs.Payloads.{name_from, name_of}
use Rattle.pack_config.proofs.table.Mappings.search.Given as goal

abbrev pub invariant-loop-i : goal.invariant-loop-i
invariant-loop-i l = name_from l.i (drop l.i (take l.self.count l.self.tags)) l.tag ≡ name_of (take l.self.count l.self.tags) l.tag
