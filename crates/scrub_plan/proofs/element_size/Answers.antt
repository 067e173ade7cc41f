-- `scrub_plan::element_size` meets its contract. Tag and length take few bytes.
use mathlib.Core.Path.{◌≡◌}
use Prim.Native.Nat.{◌+◌, ◌≤◌}
use native.Mathlib.Omega.{arith}
use Rattle.scrub_plan.specs.Planned.{sized}
use Rattle.scrub_plan.proofs.Items.{size_is}
use Rattle.scrub_plan.proofs.element_size.Goals as goal
use Rattle.scrub_plan.proofs.element_size.Goals.{After-length_size}

-- tag and length take few bytes
sizes : (c : After-length_size) → let a = c.args in
    (c.tag_size.result + c.length_size.result + a.len ≡ sized a.tag a.len) × (c.tag_size.result ≤ 4) × (c.length_size.result ≤ 5)
sizes c = size_is c.args.tag c.args.len _ _ c.tag_size.ensures c.length_size.ensures

pub returns : goal.returns
returns c = let s = sizes c in let p = c.requires in record { size = s.0; small = omega arith }

pub overflow_add-result : goal.overflow_add-result
overflow_add-result c = let s = sizes c in let p = c.requires in omega arith

pub overflow_cast-result : goal.overflow_cast-result
overflow_cast-result c = let s = sizes c in let p = c.requires in omega arith

pub overflow_add-result-2 : goal.overflow_add-result-2
overflow_add-result-2 c = let s = sizes c in let p = c.requires in omega arith
