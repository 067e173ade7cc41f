-- `Mappings::has_label` meets its contract. The loop keeps what is left: the label is among those not yet passed just if it is among all.
use Rattle.std.proofs.Common.{◌≡◌, take, drop}
use Rattle.runs.specs.Same.{listed}
use Rattle.pack_config.specs.Index.{standing}
use Rattle.pack_config.proofs.table.Mappings.has_label.Given as goal

abbrev pub invariant-loop-i : goal.invariant-loop-i
invariant-loop-i l =
    listed (take 16 (drop l.at l.c)) (drop l.i (standing l.c (take l.self.count l.self.places))) ≡ listed (take 16 (drop l.at l.c)) (standing l.c (take l.self.count l.self.places))
