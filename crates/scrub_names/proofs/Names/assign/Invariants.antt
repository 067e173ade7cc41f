-- `scrub_names::Names::assign` meets its contract. The loop keeps the mappings so far and those that are left.
use lib.ListN.{take}
use Rattle.scrub_names.proofs.Naming.{Giving}
use Rattle.scrub_names.proofs.Names.assign.Given as goal

abbrev pub invariant-loop-k : goal.invariant-loop-k
invariant-loop-k l = Giving l.places (take l.self.labels l.self.order) l.self.taken l.mappings l.next l.k
