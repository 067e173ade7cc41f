-- `lookup::mapped_to` meets its contract. The loop keeps what is left: the mappings from i on have the tag that all of them have.
use mathlib.Core.Path.{◌≡◌}
use lib.ListN.{take, drop}
use Rattle.lookup.specs.Sought.{tag_for}
use Rattle.lookup.proofs.mapped_to.Given as goal

abbrev pub invariant-loop-i : goal.invariant-loop-i
invariant-loop-i l =
    tag_for l.pack l.label (drop l.i (take l.maps.count l.maps.tags)) (drop l.i (take l.maps.count l.maps.places)) ≡ tag_for l.pack l.label (take l.maps.count l.maps.tags) (take l.maps.count l.maps.places)
