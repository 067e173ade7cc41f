-- Two outcomes of `plan_items` that meet the promise on the same items coincide: the array of the writes and their size.
use mathlib.Core.Path.{◌≡◌}
use mathlib.Core.List.{List}
use Rattle.std.specs.Prelude.{Option}
use Prim.Native.Nat.{ℕ}
use Rattle.runs.proofs.Cases.{one}
use Rattle.pack.specs.declared.Name.{Name}
use Rattle.pack.specs.declared.Item.{Item}
use Rattle.scrub_plan.specs.Planned.{Plan, Plans}

pub plans_one : {index : List ℕ} {xs : List Item} {ms : List (Option Name)} {a b : Plan} → Plans index xs ms a → Plans index xs ms b → (a.ops ≡ b.ops) × (a.size ≡ b.size)
plans_one p q = (one p.ops q.ops, one p.size q.size)
