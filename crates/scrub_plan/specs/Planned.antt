-- Inner. The writes for the items of a reading, worked out from the last item to the first, so that a Sync knows the size of what is inside.
use Rattle.std.specs.Prelude.{◌≡◌, List, [], ◌∷◌, cond, Option, Some, None, ℕ, ◌+◌, ◌<◌, ◌≤◌, eqb, length, get_or}
use Rattle.numbers.specs.Tags.{tag_bytes}
use Rattle.numbers.specs.Lengths.{length_bytes}
use Rattle.pack.specs.declared.Name.{Name}
use Rattle.pack.specs.declared.Name.TheVariants as N
use Rattle.pack.specs.declared.Item.{Item}
use Rattle.pack.specs.declared.Item.TheVariants as I
use Rattle.pack.specs.Fixed.{pack_cap, mapping_cap, item_cap}
use Rattle.pack.specs.Slots.{padded}
use Rattle.scrub_ops.specs.declared.Op.TheVariants.{Put, Open}
use Rattle.scrub_ops.specs.declared.Op.{Op}
use Rattle.scrub_plan.specs.declared.ItemPlan.{ItemPlan}

-- nothing is written with a tag of 0
abbrev pub written : ℕ → Option ℕ
written t = cond (eqb t 0) None (Some t)

-- the tag that an item with this mark is written with, if it stays; `index` has the new tags of labels, 0 where a label goes
abbrev pub tag_of : List ℕ → Option Name → Option ℕ
tag_of index None = None
tag_of index (Some (N.Number t)) = written t
tag_of index (Some (N.Label i)) = written (get_or index i 0)

-- tag, length and value
abbrev pub sized : ℕ → ℕ → ℕ
sized t l = length (tag_bytes t) + (length (length_bytes l) + l)

abbrev pub nothing : ItemPlan
nothing = record { op = None; inner = 0; size = 0 }

-- one item: its write, the bytes inside a Sync that is still to come, and its size. `inner` is what stands inside so far
unfoldable pub item_plan : Item → Option ℕ → ℕ → ItemPlan
item_plan (I.Single x) None inner = nothing
item_plan (I.Single x) (Some t) inner = record { op = Some (Put t x.value_start x.value_len); inner = 0; size = sized t x.value_len }
item_plan (I.Inner x) None inner = record { op = None; inner = inner; size = 0 }
item_plan (I.Inner x) (Some t) inner = record { op = Some (Put t x.value_start x.value_len); inner = sized t x.value_len + inner; size = sized t x.value_len }
item_plan (I.Sync h) t inner =
    cond (eqb inner 0)
    nothing
    (record { op = Some (Open inner h.offset h.duration); inner = 0; size = 1 + (length (length_bytes (4 + inner)) + 4) })

pub record Planned : Type 0 where
  pub inner : ℕ
  pub total : ℕ
  pub ops : List (Option Op)

abbrev pub joined : ItemPlan → Planned → Planned
joined s p = record { inner = s.inner; total = s.size + p.total; ops = s.op ∷ p.ops }

unfoldable pub planned : List ℕ → List Item → List (Option Name) → Planned
planned index [] ms = record { inner = 0; total = 0; ops = [] }
planned index (x ∷ xs) [] = record { inner = 0; total = 0; ops = [] }
planned index (x ∷ xs) (m ∷ ms) = joined (item_plan x (tag_of index m) (planned index xs ms).inner) (planned index xs ms)

-- the writes in order, and how many bytes they make
pub record Plan : Type 0 where
  pub ops : List (Option Op)
  pub size : ℕ

-- what the plan of these items is; behind their writes the array holds none
pub record Plans (index : List ℕ) (xs : List Item) (ms : List (Option Name)) (r : Plan) : Type 0 where
  pub ops : r.ops ≡ padded item_cap None (planned index xs ms).ops
  pub size : r.size ≡ (planned index xs ms).total
  pub small : r.size < 3000000

-- values that a pack can hold, and labels that are mapped
abbrev pub ItemSmall : Item → Type 0
ItemSmall (I.Single x) = x.value_len ≤ pack_cap
ItemSmall (I.Inner x) = x.value_len ≤ pack_cap
ItemSmall (I.Sync h) = Unit

abbrev pub MarkFits : Option Name → Type 0
MarkFits None = Unit
MarkFits (Some (N.Number t)) = Unit
MarkFits (Some (N.Label i)) = i < mapping_cap
