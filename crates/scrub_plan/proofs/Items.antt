-- One item: what it adds, by cases.
use mathlib.Core.Path.{◌≡◌, refl}
use Rattle.std.specs.Prelude.{Option, Some, None}
use Prim.Native.Nat.{ℕ, ◌+◌, ◌≤◌}
use native.Mathlib.Omega.{arith}
use Rattle.std.proofs.Common.{zero-add}
use lib.ListN.{length}
use borrow.Author.Tests.{eq-eqb, ne_eqb}
use Rattle.numbers.specs.Tags.{tag_size}
use Rattle.numbers.specs.Lengths.{length_bytes}
use Rattle.numbers.proofs.Tags.{length_tag, tag_size_bounds}
use Rattle.numbers.proofs.Lengths.{length_small}
use Rattle.pack.specs.declared.Payload.{Payload}
use Rattle.pack.specs.declared.Head.{Head}
use Rattle.pack.specs.declared.Item.TheVariants as I
use Rattle.scrub_ops.specs.declared.Op.TheVariants.{Open}
use Rattle.scrub_plan.specs.declared.ItemPlan.{ItemPlan}
use Rattle.scrub_plan.specs.Planned.{sized, nothing, item_plan}

-- tag and length take few bytes
pub size_is : (t l a b : ℕ) → a ≡ tag_size t → b ≡ length (length_bytes l) → (a + b + l ≡ sized t l) × (a ≤ 4) × (b ≤ 5)
size_is t l a b e f = let x = length_tag t in let y = tag_size_bounds t in let z = length_small l in (omega arith, omega arith, omega arith)

-- a Sync
module _ (h : Head) (n : ℕ) where
  pub sync_goes : n ≡ 0 → nothing ≡ item_plan (I.Sync h) None n
  unfolding item_plan
  sync_goes z = rw (eq-eqb n 0 z)

  pub sync_stays : (m : ℕ) → (n ≡ 0 → ⊥) → m ≡ length (length_bytes (4 + n))
      → ◌≡◌ {A = ItemPlan} (record { op = Some (Open n h.offset h.duration); inner = 0; size = 1 + (m + 4) }) (item_plan (I.Sync h) None n)
  unfolding item_plan
  sync_stays m z q = rw (ne_eqb n 0 z, q)

-- a payload inside a Sync adds its size to the n bytes inside
pub inner_plan : (x : Payload) (t : Option ℕ) (n : ℕ) (r : ItemPlan) → r ≡ item_plan (I.Single x) t 0
    → ◌≡◌ {A = ItemPlan} (record { op = r.op; inner = r.size + n; size = r.size }) (item_plan (I.Inner x) t n)
unfolding item_plan
inner_plan x None n r q = rw (q, zero-add) refl
inner_plan x (Some t) n r q = rw q refl

-- outside a Sync it doesn't matter how many there are
pub single_plan : (x : Payload) (t : Option ℕ) (n : ℕ) → item_plan (I.Single x) t 0 ≡ item_plan (I.Single x) t n
unfolding item_plan
single_plan x None n = refl
single_plan x (Some t) n = refl
