-- The slots of an accepted pack fit the struct `Reading`: each label is one of the mappings that it has room for.
use mathlib.Core.List.{List}
use Prim.Native.Nat.{ℕ, ◌≤◌}
use native.Mathlib.Omega.{arith}
use Rattle.runs.specs.Those.{Each}
use Rattle.runs.proofs.Those.{each_map}
use Rattle.pack.specs.Fixed.{mapping_cap}
use Rattle.pack.specs.Items.{Part}
use Rattle.pack.specs.Slots.{slots}
use Rattle.pack.specs.Fits.{NameFits, ItemFits, SlotsFit}
use Rattle.pack.specs.declared.Name.{Name}
use Rattle.pack.specs.declared.Name.TheVariants as N
use Rattle.pack.specs.declared.Item.{Item}
use Rattle.pack.specs.declared.Item.TheVariants as I
use Rattle.pack_layout.proofs.Bounds as B

module _ (s : List ℕ) (n : ℕ) (few : n ≤ mapping_cap) where
  name_fits : (x : Name) → B.NameFits n x → NameFits x
  name_fits (N.Label i) h = omega arith
  name_fits (N.Number t) h = tt

  item_fits : (y : Item) → B.ItemLies s n y → ItemFits y
  item_fits (I.Single x) h = name_fits x.name h.named
  item_fits (I.Inner x) h = name_fits x.name h.named
  item_fits (I.Sync y) h = tt

  pub slots_fit : (ps : List Part) → Each (B.PartLies s n) ps → SlotsFit (slots ps)
  slots_fit ps h = each_map (λ (w : Item). item_fits w) (slots ps) (B.slots_lie s n ps h)
